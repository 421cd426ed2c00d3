-- A node without kids at a place of a program.
use Rattle.std.proofs.Common.{◌≡◌, ℕ, List, [], ◌∷◌, map, min, refl, sym, ap, subst, Option, Some, None, IsSome}
use Rattle.std.specs.Prelude.{slice_get, option_map}
use Rattle.fc_values.specs.Types.{ValueType}
use Rattle.fc_values.specs.Values.{LocalValue, IntValue}
use Rattle.fc_values.specs.Fields.{AnyValue, ValueLocal, ValueField, Entries, with_entry, restricted}
use Rattle.fc_values.specs.Exports.{SlotValue}
use Rattle.fc_nodes.specs.declared.nodes.Node.{Node}
use Rattle.fc_nodes.specs.Terms.{Leaf, Literal, Variable, Sense, Uid, NbrLink, Term, Plain, OfLeaf, kept_before, HasNode}
use Rattle.fc_nodes.proofs.Places.{AllAbove, formed_above, term_is}
use Rattle.alignment.specs.Environments.{near_numbers}
use Rattle.alignment.specs.Scopes.{weights, Vars, variable_at}
use Rattle.device_eval.specs.Evaluation.{Situation, leaf_value}
use Rattle.alignment.specs.Slots.{FlatEnv, NearSlots}
use Rattle.device_eval.specs.Environments.{near_at, env_at}
use Rattle.device_eval.specs.Walks.{Can, Did, CanAt, DidAt, ReadyAt}
use Rattle.fc_nodes.specs.Layouts.{LayoutValue}
use Rattle.device_eval.proofs.Frames.{same_out, still_same}
use Rattle.device_eval.proofs.Steps.{some_on}

-- which neighbours there are doesn't depend on their slots
module _ (t : Term) (k : ℕ) where
  pub numbers_same : (ns : List NearSlots) → near_numbers (map (near_at t k) ns) ≡ near_numbers ns
  numbers_same [] = refl
  numbers_same (n ∷ ns) = ap (λ (ds : List ℕ). n.0 ∷ ds) (numbers_same ns)

  pub weights_same : (ns : List NearSlots) → weights (map (near_at t k) ns) ≡ weights ns
  weights_same [] = refl
  weights_same (n ∷ ns) = ap (λ (es : Entries). (n.0, IntValue n.1) ∷ es) (weights_same ns)

some_mapped : {A : Type 0} (f : A → AnyValue) (o : Option A) → IsSome (option_map f o) → IsSome o
some_mapped f None h = absurd cc
some_mapped f (Some x) h = refl

module _ (ns : List Node) (ab : AllAbove ns) (p : ℕ) (l : Leaf) (t : ValueType) (ks : List ℕ) (h : HasNode ns p (OfLeaf l) t ks) (S : Situation) (vars : Vars) (env : FlatEnv) (xs : List SlotValue) where
  abbrev seen_value : Option AnyValue
  seen_value = leaf_value S l vars (env_at (Plain t l) (kept_before ns p) env)

  leaf_runs : CanAt S ns p vars env xs → IsSome seen_value
  leaf_runs can =
      let can' : Can S p (Plain t l) (kept_before ns p) vars env xs = subst (λ u. Can S p u (kept_before ns p) vars env xs) (term_is ns ab p (OfLeaf l) t ks h) can in
      some_on _ _ can'.runs

  leaf_done : (v : AnyValue) → seen_value ≡ Some v → DidAt S ns p vars env xs v xs
  leaf_done v e =
      subst (λ u. Did S p u (kept_before ns p) vars env xs v xs) (sym (term_is ns ab p (OfLeaf l) t ks h))
      (record { gives = rw e refl; marked = tt; out = same_out (kept_before ns p) 0 xs; still = still_same xs })

module _ {S : Situation} {ns : List Node} {lay : LayoutValue} {p : ℕ} {t : ValueType} {ks : List ℕ} {vars : Vars} {env : FlatEnv} {xs : List SlotValue} where
  there : (l : Leaf) → ReadyAt S ns lay p (OfLeaf l) t ks vars env xs → IsSome (leaf_value S l vars (env_at (Plain t l) (kept_before ns p) env))
  there l h = leaf_runs ns (formed_above ns h.ready.stands.formed) p l t ks h.node S vars env xs h.ready.can

  gives : (l : Leaf) → ReadyAt S ns lay p (OfLeaf l) t ks vars env xs → (v : AnyValue) → leaf_value S l vars (env_at (Plain t l) (kept_before ns p) env) ≡ Some v → DidAt S ns p vars env xs v xs
  gives l h v e = leaf_done ns (formed_above ns h.ready.stands.formed) p l t ks h.node S vars env xs v e

  pub lit_done : {v w : LocalValue} → ReadyAt S ns lay p (OfLeaf (Literal v)) t ks vars env xs → w ≡ v → DidAt S ns p vars env xs (ValueLocal w) xs
  lit_done {v} {w} h e = gives (Literal v) h (ValueLocal w) (rw e refl)

  pub variable_bound : {n : ℕ} → ReadyAt S ns lay p (OfLeaf (Variable n)) t ks vars env xs → IsSome (variable_at n vars)
  variable_bound {n} h = some_mapped _ _ (there (Variable n) h)

  pub variable_done : {n : ℕ} → ReadyAt S ns lay p (OfLeaf (Variable n)) t ks vars env xs → {v w : AnyValue} → variable_at n vars ≡ Some v → w ≡ restricted S.device (near_numbers env.near) v → DidAt S ns p vars env xs w xs
  variable_done {n} h {v} {w} e f = gives (Variable n) h w (rw (e, numbers_same (Plain t (Variable n)) (kept_before ns p) env.near, f) refl)

  pub sense_there : {i : ℕ} → ReadyAt S ns lay p (OfLeaf (Sense i)) t ks vars env xs → IsSome (slice_get S.inputs i)
  sense_there {i} h = some_mapped _ _ (there (Sense i) h)

  pub sense_done : {i : ℕ} → ReadyAt S ns lay p (OfLeaf (Sense i)) t ks vars env xs → {v w : LocalValue} → slice_get S.inputs i ≡ Some v → w ≡ v → DidAt S ns p vars env xs (ValueLocal w) xs
  sense_done {i} h {v} {w} e f = gives (Sense i) h (ValueLocal w) (rw (e, f) refl)

  pub uid_done : {n : ℕ} → ReadyAt S ns lay p (OfLeaf Uid) t ks vars env xs → n ≡ min S.device S.ceiling → DidAt S ns p vars env xs (ValueLocal (IntValue n)) xs
  uid_done {n} h e = gives Uid h (ValueLocal (IntValue n)) (rw e refl)

  pub links_done : {es : Entries} → ReadyAt S ns lay p (OfLeaf NbrLink) t ks vars env xs → es ≡ with_entry S.device (IntValue S.least) (weights env.near) → DidAt S ns p vars env xs (ValueField es) xs
  links_done {es} h e = gives NbrLink h (ValueField es) (rw (e, weights_same (Plain t NbrLink) (kept_before ns p) env.near) refl)
