-- Crates above cite this module: a copy that fits a program has exactly one export.
use Rattle.std.proofs.Common.{◌≡◌, ℕ, zero, suc, ◌≤◌, ◌≢◌, List, [], ◌∷◌, map, refl, sym, ◌∙◌, ap, subst, arith, false, Option, Some, None, option_map, nat_eq}
use Rattle.std.specs.Prelude.{slice_get}
use Rattle.std.proofs.lemmas.Bool.Decides.{nat_tests}
use Rattle.fc_values.specs.declared.types.InputTy.{InputTy}
use Rattle.fc_values.specs.declared.types.InputTy.TheVariants as input
use Rattle.fc_values.specs.Types.{LocalType, TypeLocal, Input, input_type, Declarations}
use Rattle.fc_values.specs.Values.{LocalValue, IntValue, BoolValue, PairValue, Fits}
use Rattle.fc_values.specs.Fields.{AnyValue, ValueLocal, is_in, with_number}
use Rattle.fc_values.specs.BuiltinTypes.{inner}
use Rattle.fc_values.specs.Trees.{Tree, TreeExport, NearCopy, Copy}
use Rattle.fc_nodes.specs.Terms.{term_type}
use Rattle.fc_nodes.specs.Typing.{HasType}
use Rattle.fc_nodes.specs.Program.{Program, Unfolding, unfolding_of, InputIsLawful, InputsAreLawful, IsLawful, IsProgram}
use Rattle.fc_nodes.specs.Flat.{FitsTree, IsWellTyped}
use Rattle.device_eval.specs.Evaluation.{eval_of}
use Rattle.fc_values.specs.Inputs.{InputFits, InputsFit}
use Rattle.value_trees.specs.Copies.{WhereSome, AllNearFit, near_devices, FitsCopy}
use Rattle.device_eval.specs.Copies.{near_tree, env_of, situation_of, HasOneExport}
use Rattle.device_eval.specs.Conditions.{FitsEnv, EachNear, AllLight, Suits, NodeIn, MayEvaluate, HasOutcome, main_in}
use Rattle.device_eval.proofs.Progress.{Gives, local_of_type, progress}
use Rattle.device_eval.proofs.Agree.{gives_rule, one_outcome}
use Rattle.alignment.specs.Environments.{near_numbers}

-- an input of a copy has the type of its declaration
input_fits : (ceiling : ℕ) (t : InputTy) (v : LocalValue) → InputIsLawful ceiling t → InputFits t v → Fits ceiling (input_type t) v
input_fits ceiling input.Truth (BoolValue b) l h = tt
input_fits ceiling input.Truth (IntValue n) l h = absurd h
input_fits ceiling input.Truth (PairValue a b) l h = absurd h
input_fits ceiling (input.Whole least greatest) (IntValue n) l h = omega (arith, l.1, h.1)
input_fits ceiling (input.Whole least greatest) (BoolValue b) l h = absurd h
input_fits ceiling (input.Whole least greatest) (PairValue a b) l h = absurd h

module _ (ceiling : ℕ) (s : LocalType) where
  pub input_there : (is : List Input) (vs : List LocalValue) (i : ℕ) → InputsAreLawful ceiling is → InputsFit is vs → option_map (λ (x : Input). input_type x.type) (slice_get is i) ≡ Some s
      → (v : LocalValue) × (slice_get vs i ≡ Some v) × Fits ceiling s v
  input_there [] vs i l h e = absurd cc
  input_there (x ∷ is) [] i l h e = absurd h
  input_there (x ∷ is) (v ∷ vs) zero l h e = let same : input_type x.type ≡ s = cc in (v, refl, subst (λ t. Fits ceiling t v) same (input_fits ceiling x.type v l.0 h.0))
  input_there (x ∷ is) (v ∷ vs) (suc i) l h e = input_there is vs i l.2 h.1 e

-- the environment of a copy that fits
own_fits : (U : Unfolding) (o : Option TreeExport) → WhereSome (IsWellTyped U) o → WhereSome (FitsTree U.declared.ceiling U.main) (option_map (λ (e : TreeExport). e.tree) o)
own_fits U None h = tt
own_fits U (Some e) h = h.tree

module _ (U : Unfolding) (device : ℕ) where
  near_fit : (ns : List NearCopy) → AllNearFit U device ns → EachNear (FitsTree U.declared.ceiling U.main) (map near_tree ns)
  near_fit [] h = tt
  near_fit (n ∷ ns) h = let first = h.0 in (first.export.tree, near_fit ns h.1)

  near_light : (ns : List NearCopy) → U.declared.greatest ≤ U.declared.ceiling → AllNearFit U device ns → AllLight U.declared.ceiling (map near_tree ns)
  near_light [] l h = tt
  near_light (n ∷ ns) l h = let first = h.0 in let below = first.below in (omega (arith, below), near_light ns l h.1)

  near_numbers_are : (ns : List NearCopy) → near_numbers (map near_tree ns) ≡ near_devices ns
  near_numbers_are [] = refl
  near_numbers_are (n ∷ ns) = ap (λ (xs : List ℕ). n.device ∷ xs) (near_numbers_are ns)

  near_other : (ns : List NearCopy) → AllNearFit U device ns → is_in device (near_devices ns) ≡ false
  near_other [] h = refl
  near_other (n ∷ ns) h =
      let first = h.0 in
      let other : n.device ≢ device = first.other in
      let test : nat_eq device n.device ≡ false = grind (arith, nat_tests) in
      let rest = near_other ns h.1 in
      rw (test, rest) refl

pub copy_env : (U : Unfolding) (s : Copy) → IsLawful U.declared → FitsCopy U s → FitsEnv U.declared.ceiling s.device (near_devices s.near) (FitsTree U.declared.ceiling U.main) (env_of s)
copy_env U s l h = record {
  own = own_fits U s.own h.own;
  near = near_fit U s.device s.near h.near;
  light = near_light U s.device s.near l.metric.1 h.near;
  numbers = near_numbers_are U s.device s.near;
  rising = h.rising;
  other = near_other U s.device s.near h.near;
}

abbrev export_with : LocalValue → Tree → TreeExport
export_with v t = record { value = v; tree = t }

same_export : (e f : TreeExport) → ValueLocal e.value ≡ ValueLocal f.value → e.tree ≡ f.tree → e ≡ f
same_export e f v t = let v' : e.value ≡ f.value = cc in ap (λ (x : LocalValue). export_with x e.tree) v' ∙ ap (export_with f.value) t

pub copy_suits : (D : Declarations) (s : Copy) → IsLawful D → InputsFit D.inputs s.inputs → Suits D (situation_of D s)
copy_suits D s l h = record {
  ceiling = refl;
  least = let a = l.metric.0 in let b = l.metric.1 in omega (arith, a, b);
  inputs = λ i t e. let there = input_there D.ceiling t D.inputs s.inputs i l.inputs h e in record { value = there.0; is = there.1; fits = there.2 };
}

-- the outcome of `main`
pub main_gives : (U : Unfolding) (s : Copy) → IsLawful U.declared → HasType U.declared [] 0 U.main → FitsCopy U s
    → Gives U.declared.ceiling s.device (near_devices s.near) (term_type U.main) (FitsTree U.declared.ceiling U.main) (eval_of (situation_of U.declared s) 0 U.main [] (env_of s))
main_gives U s l ty h = progress U.declared (situation_of U.declared s) (copy_suits U.declared s l h.inputs) U.main [] 0 (near_devices s.near) [] (env_of s) ty tt (copy_env U s l h)

-- the export of a copy, as the function gives it
pub progress_copy : (U : Unfolding) (s : Copy) (t : LocalType) → IsLawful U.declared → HasType U.declared [] 0 U.main → term_type U.main ≡ TypeLocal t → FitsCopy U s
    → (e : TreeExport) × (eval_of (situation_of U.declared s) 0 U.main [] (env_of s) ≡ Some (ValueLocal e.value, e.tree)) × IsWellTyped U e
progress_copy U s t l ty root h =
    let g = main_gives U s l ty h in
    let v = local_of_type U.declared.ceiling (with_number s.device (near_devices s.near)) (term_type U.main) t g.value root g.fits in
    let inside : t ≡ inner (term_type U.main) = sym (ap inner root) in
    let e : TreeExport = record { value = v.value; tree = g.tree } in
    (e, g.is ∙ ap (λ (w : AnyValue). Some (w, g.tree)) v.is, record { value = subst (λ u. Fits U.declared.ceiling u v.value) inside v.fits; tree = g.formed })

pub has_one_export : (U : Unfolding) (s : Copy) (t : LocalType) → IsLawful U.declared → HasType U.declared [] 0 U.main → term_type U.main ≡ TypeLocal t → FitsCopy U s → HasOneExport U s
has_one_export U s t l ty root h = by_export (progress_copy U s t l ty root h)
  where
    by_export : (e : TreeExport) × (eval_of (situation_of U.declared s) 0 U.main [] (env_of s) ≡ Some (ValueLocal e.value, e.tree)) × IsWellTyped U e → HasOneExport U s
    by_export r =
        let S = situation_of U.declared s in
        let rule = gives_rule S 0 U.main [] (env_of s) (ValueLocal r.0.value) r.0.tree r.1 in
        record {
          export = r.0;
          evaluates = record { main = rule };
          typed = r.2;
          only = λ e h. let same = one_outcome S 0 U.main [] (env_of s) (ValueLocal e.value) (ValueLocal r.0.value) e.tree r.0.tree h.main rule in same_export e r.0 same.0 same.1;
        }

pub program_export : (P : Program) (s : Copy) → IsProgram P → FitsCopy (unfolding_of P) s → HasOneExport (unfolding_of P) s
program_export P s p h = has_one_export (unfolding_of P) s p.root.0 p.lawful p.typed p.root.1 h

-- a node under its conditions
pub node_outcome : (n : NodeIn) → MayEvaluate n → HasOutcome n
node_outcome n h =
    let S = n.situation in
    let g = progress n.declared S h.suits n.term n.scope n.place n.neighbours n.vars n.env h.typed h.vars h.env in
    let rule = gives_rule S n.place n.term n.vars n.env g.value g.tree g.is in
    record { value = g.value; tree = g.tree; evaluates = rule; fits = g.fits; formed = g.formed; only = λ v t e. one_outcome S n.place n.term n.vars n.env v g.value t g.tree e rule }

pub main_may : (P : Program) (s : Copy) → IsProgram P → FitsCopy (unfolding_of P) s → MayEvaluate (main_in (unfolding_of P) s)
main_may P s p h =
    let U = unfolding_of P in
    record { typed = p.typed; suits = copy_suits U.declared s p.lawful h.inputs; vars = tt; env = copy_env U s p.lawful h }
