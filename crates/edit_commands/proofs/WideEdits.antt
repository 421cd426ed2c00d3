-- An edit with a pair in place of what is too wide is judged as the edit itself.
use Rattle.std.proofs.Common.{ℕ, zero, suc, ◌≡◌, ◌≤◌, Bool, true, false, not, ◌&&◌, nat_le, nat_eq, List, [], ◌∷◌, map, length, refl, ap, ◌∙◌, Some, None, Option, if◌then◌else◌, arith}
use Rattle.std.specs.Prelude.{option_map, is_none}
use Rattle.std.proofs.lemmas.Bool.Decides.{nat_tests}
use Rattle.std.proofs.lemmas.List.{length-map}
use Rattle.fc_values.specs.declared.types.InputTy.{InputTy}
use Rattle.fc_values.specs.declared.types.InputTy.TheVariants as input
use Rattle.fc_values.specs.Types.{Input}
use Rattle.fc_values.specs.Values.{LocalValue, IntValue, BoolValue, PairValue}
use Rattle.fc_values.specs.BuiltinTypes.{inner}
use Rattle.fc_nodes.specs.Terms.{term_type}
use Rattle.fc_nodes.specs.Program.{Program, Unfolding, unfolding_of, IsProgram}
use Rattle.value_trees.specs.KeptReads.{has_type, misfit_of}
use Rattle.topology.specs.declared.types.NetFault.{NetFault}
use Rattle.topology.specs.declared.types.NetFault.TheVariants as net
use Rattle.topology.specs.Networks.{Network, NetDevice, lives}
use Rattle.topology.specs.Inputs.{input_fault, inputs_fault, or_fault}
use Rattle.topology.specs.Changes.{first_fault, nth_fault, set_fault, join_fault}
use Rattle.edit_commands.specs.declared.types.Fault.TheVariants as fault
use Rattle.edit_commands.specs.EditLines.{EditLine, LinkLine, UnlinkLine, SetLine, PokeLine, JoinLine, LeaveLine, device_with}
use Rattle.edit_commands.specs.Judging.{fits_kept, poke_fault, edit_line_fault}
use Rattle.edit_commands.specs.Narrow.{leaves_in, stand_in, narrow, narrow_device, narrow_line}
use Rattle.fc_nodes.proofs.NarrowTypes.{IsNarrow, Keeps, term_narrow}
use Rattle.edit_commands.proofs.Wide.{narrow_types, narrow_same, misfit_narrow, fitting_narrow}

pub record IsNarrowProgram (U : Unfolding) : Type 0 where
  pub few : U.declared.ceiling ≤ 1000000
  pub main : IsNarrow (inner (term_type U.main))
  pub keeps : Keeps IsNarrow U.main

pub program_narrow : (p : Program) → IsProgram p → IsNarrowProgram (unfolding_of p)
program_narrow p h =
    let t = term_narrow p.declared [] 0 (unfolding_of p).main h.typed tt in
    record { few = h.lawful.most; main = t.0; keeps = t.1 }

-- ---- inputs

some_input : (ty : InputTy) (v w : LocalValue) (b : Bool) → input_fault ty stand_in ≡ input_fault ty (PairValue v w) → input_fault ty (if b then PairValue v w else stand_in) ≡ input_fault ty (PairValue v w)
some_input ty v w true h = refl
some_input ty v w false h = h

input_narrow : (ty : InputTy) (v : LocalValue) → input_fault ty (narrow v) ≡ input_fault ty v
input_narrow input.Truth (IntValue n) = refl
input_narrow input.Truth (BoolValue b) = refl
input_narrow input.Truth (PairValue v w) = some_input input.Truth v w (nat_le (leaves_in (PairValue v w)) 8) refl
input_narrow (input.Whole l g) (IntValue n) = refl
input_narrow (input.Whole l g) (BoolValue b) = refl
input_narrow (input.Whole l g) (PairValue v w) = some_input (input.Whole l g) v w (nat_le (leaves_in (PairValue v w)) 8) refl

input_same : (ty : InputTy) (v : LocalValue) → input_fault ty v ≡ None → narrow v ≡ v
input_same ty (IntValue n) h = refl
input_same ty (BoolValue b) h = refl
input_same input.Truth (PairValue v w) h = absurd cc
input_same (input.Whole l g) (PairValue v w) h = absurd cc

nth_narrow : (xs : List Input) (i : ℕ) (v : LocalValue) → nth_fault xs i (narrow v) ≡ nth_fault xs i v
nth_narrow [] i v = refl
nth_narrow (x ∷ xs) zero v = input_narrow x.type v
nth_narrow (x ∷ xs) (suc i) v = nth_narrow xs i v

nth_same : (xs : List Input) (i : ℕ) (v : LocalValue) → nth_fault xs i v ≡ None → narrow v ≡ v
nth_same [] i v h = absurd cc
nth_same (x ∷ xs) zero v h = input_same x.type v h
nth_same (x ∷ xs) (suc i) v h = nth_same xs i v h

inputs_narrow : (xs : List Input) (vs : List LocalValue) → inputs_fault xs (map narrow vs) ≡ inputs_fault xs vs
inputs_narrow [] vs = refl
inputs_narrow (x ∷ xs) [] = refl
inputs_narrow (x ∷ xs) (v ∷ vs) = ap (λ o. or_fault o (inputs_fault xs (map narrow vs))) (input_narrow x.type v) ∙ ap (or_fault (input_fault x.type v)) (inputs_narrow xs vs)

or_none : (o p : Option NetFault) → or_fault o p ≡ None → (o ≡ None) × (p ≡ None)
or_none None p h = (refl, h)
or_none (Some f) p h = absurd cc

inputs_same : (xs : List Input) (vs : List LocalValue) → length vs ≡ length xs → inputs_fault xs vs ≡ None → map narrow vs ≡ vs
inputs_same [] [] l h = refl
inputs_same [] (v ∷ vs) l h = absurd (omega arith)
inputs_same (x ∷ xs) [] l h = refl
inputs_same (x ∷ xs) (v ∷ vs) l h =
    let both = or_none (input_fault x.type v) (inputs_fault xs vs) h in
    let rest : map narrow vs ≡ vs = inputs_same xs vs (omega arith) both.1 in
    ap (λ w. w ∷ map narrow vs) (input_same x.type v both.0) ∙ ap (λ ws. v ∷ ws) rest

set_narrow : (n : Network) (d i : ℕ) (v : LocalValue) → set_fault n d i (narrow v) ≡ set_fault n d i v
set_narrow n d i v = ap (λ o. if lives n d then o else Some net.NoDevice) (nth_narrow n.declared.inputs i v)

set_same : (n : Network) (d i : ℕ) (v : LocalValue) → set_fault n d i v ≡ None → narrow v ≡ v
set_same n d i v h = by_test (lives n d) h
  where
    by_test : (b : Bool) → (if b then nth_fault n.declared.inputs i v else Some net.NoDevice) ≡ None → narrow v ≡ v
    by_test true e = nth_same n.declared.inputs i v e
    by_test false e = absurd cc

abbrev join_by : Network → ℕ → ℕ → Option NetFault → Option NetFault
join_by n d count inputs = or_fault
    (first_fault ((lives n d, net.Twice) ∷ (nat_le 1024 (length n.devices), net.Devices) ∷ (not (nat_eq count (length n.declared.inputs)), net.NoInput) ∷ []))
    inputs

join_narrow : (n : Network) (x : NetDevice) → join_fault n (narrow_device x) ≡ join_fault n x
join_narrow n x =
    ap (λ k. join_by n x.id k (inputs_fault n.declared.inputs (map narrow x.inputs))) (length-map x.inputs narrow)
    ∙ ap (join_by n x.id (length x.inputs)) (inputs_narrow n.declared.inputs x.inputs)

join_same : (n : Network) (x : NetDevice) → join_fault n x ≡ None → narrow_device x ≡ x
join_same n x h = by_tests (lives n x.id) (nat_le 1024 (length n.devices)) (nat_eq (length x.inputs) (length n.declared.inputs)) refl h
  where
    by_tests : (a b c : Bool) → nat_eq (length x.inputs) (length n.declared.inputs) ≡ c
        → or_fault (first_fault ((a, net.Twice) ∷ (b, net.Devices) ∷ (not c, net.NoInput) ∷ [])) (inputs_fault n.declared.inputs x.inputs) ≡ None → narrow_device x ≡ x
    by_tests true b c e f = absurd cc
    by_tests false true c e f = absurd cc
    by_tests false false false e f = absurd cc
    by_tests false false true e f = let l : length x.inputs ≡ length n.declared.inputs = grind (arith, nat_tests) in ap (device_with x.id) (inputs_same n.declared.inputs x.inputs l f)

-- ---- pokes

module _ (U : Unfolding) (h : IsNarrowProgram U) where
  kept_narrow : (v : LocalValue) (ks : List LocalValue) → fits_kept U (narrow v) (map narrow ks) ≡ fits_kept U v ks
  kept_narrow v ks =
      ap (λ b. b && is_none (misfit_of U (map narrow ks))) (narrow_types U.declared.ceiling h.few (inner (term_type U.main)) v h.main)
      ∙ ap (λ o. has_type U.declared.ceiling (inner (term_type U.main)) v && is_none o) (misfit_narrow U ks h.few h.keeps)

  kept_same : (v : LocalValue) (ks : List LocalValue) → fits_kept U v ks ≡ true → (narrow v ≡ v) × (map narrow ks ≡ ks)
  kept_same v ks e = by_tests (has_type U.declared.ceiling (inner (term_type U.main)) v) (misfit_of U ks) refl refl e
    where
      by_tests : (a : Bool) (o : Option ℕ) → has_type U.declared.ceiling (inner (term_type U.main)) v ≡ a → misfit_of U ks ≡ o → (a && is_none o) ≡ true → (narrow v ≡ v) × (map narrow ks ≡ ks)
      by_tests true None f g k = (narrow_same U.declared.ceiling h.few (inner (term_type U.main)) v h.main f, fitting_narrow U ks h.few h.keeps g)
      by_tests true (Some p) f g k = absurd cc
      by_tests false o f g k = absurd cc

  poke_narrow : (n : Network) (d : ℕ) (v : LocalValue) (ks : List LocalValue) → poke_fault U n d (narrow v) (map narrow ks) ≡ poke_fault U n d v ks
  poke_narrow n d v ks = ap (λ b. if lives n d then (if b then None else Some fault.Kept) else Some (fault.Net net.NoDevice)) (kept_narrow v ks)

  poke_same : (n : Network) (d : ℕ) (v : LocalValue) (ks : List LocalValue) → poke_fault U n d v ks ≡ None → (narrow v ≡ v) × (map narrow ks ≡ ks)
  poke_same n d v ks e = by_tests (lives n d) (fits_kept U v ks) refl e
    where
      by_tests : (a b : Bool) → fits_kept U v ks ≡ b → (if a then (if b then None else Some fault.Kept) else Some (fault.Net net.NoDevice)) ≡ None → (narrow v ≡ v) × (map narrow ks ≡ ks)
      by_tests true true f g = kept_same v ks f
      by_tests true false f g = absurd cc
      by_tests false b f g = absurd cc

  -- ---- edits

  pub fault_narrow : (n : Network) (flies : ℕ → Bool) (l : EditLine) → edit_line_fault U n flies (narrow_line l) ≡ edit_line_fault U n flies l
  fault_narrow n flies (LinkLine a b w) = refl
  fault_narrow n flies (UnlinkLine a b) = refl
  fault_narrow n flies (SetLine d i v) = ap (option_map fault.Net) (set_narrow n d i v)
  fault_narrow n flies (PokeLine d v ks) = poke_narrow n d v ks
  fault_narrow n flies (JoinLine x) = ap (option_map fault.Net) (join_narrow n x)
  fault_narrow n flies (LeaveLine d) = refl

  no_fault : (o : Option NetFault) → option_map fault.Net o ≡ None → o ≡ None
  no_fault None e = refl
  no_fault (Some f) e = absurd cc

  pub allowed_same : (n : Network) (flies : ℕ → Bool) (l : EditLine) → edit_line_fault U n flies l ≡ None → narrow_line l ≡ l
  allowed_same n flies (LinkLine a b w) e = refl
  allowed_same n flies (UnlinkLine a b) e = refl
  allowed_same n flies (SetLine d i v) e = ap (SetLine d i) (set_same n d i v (no_fault (set_fault n d i v) e))
  allowed_same n flies (PokeLine d v ks) e = let s = poke_same n d v ks e in ap (λ w. PokeLine d w (map narrow ks)) s.0 ∙ ap (PokeLine d v) s.1
  allowed_same n flies (JoinLine x) e = ap JoinLine (join_same n x (no_fault (join_fault n x) e))
  allowed_same n flies (LeaveLine d) e = refl
