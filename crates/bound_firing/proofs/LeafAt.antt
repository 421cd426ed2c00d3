-- A node without kids at a place of a program.
use Rattle.std.proofs.Common.{◌≡◌, ℕ, List, min, refl, sym, subst}
use Rattle.std.specs.Prelude.{slice_get}
use Rattle.fc_values.specs.Types.{ValueType}
use Rattle.fc_values.specs.Values.{LocalValue}
use Rattle.fc_nodes.specs.declared.nodes.Node.{Node}
use Rattle.fc_nodes.specs.Terms.{Leaf, Literal, Variable, Sense, Uid, NbrLink, Plain, OfLeaf, kept_before}
use Rattle.fc_nodes.specs.Layouts.{LayoutValue}
use Rattle.fc_nodes.proofs.Places.{formed_above, term_is}
use Rattle.value_bounds.specs.BoundValues.{BoundValue, Between, exactly}
use Rattle.value_bounds.specs.BoundBuiltins.{AnyBound, BoundLocal, BoundField}
use Rattle.bound_firing.specs.Seats.{cut_to}
use Rattle.bound_firing.specs.Firing.{BoundSituation, BoundVars, variable_bound, input_bound, leaf_bound}
use Rattle.bound_firing.specs.FlatSeats.{FlatSeats, seats_over, flat_entries, flat_weight, flat_maybes}
use Rattle.bound_firing.specs.Walks.{Did, DidAt, ReadyAt}
use Rattle.bound_firing.proofs.Seated.{weight_entries, seat_maybes}
use Rattle.bound_firing.proofs.Frames.{same_out}

module _ {ns : List Node} {lay : LayoutValue} {p : ℕ} {t : ValueType} {ks : List ℕ} {F : FlatSeats}
    {xs : List BoundValue} (S : BoundSituation) (vars : BoundVars) where
  leaf_done : (l : Leaf) → ReadyAt ns lay p (OfLeaf l) t ks F xs → (b : AnyBound)
      → leaf_bound S l vars (seats_over (Plain t l) (kept_before ns p) F) ≡ b → DidAt S ns p vars F xs b xs
  leaf_done l h b e =
      let is = term_is ns (formed_above ns h.ready.stands.formed) p (OfLeaf l) t ks h.node in
      subst (λ u. Did S p u (kept_before ns p) vars F xs b xs) (sym is)
      (record { gives = rw e refl; out = same_out (kept_before ns p) 0 xs })

  pub lit_done : {v : LocalValue} {b : AnyBound} → ReadyAt ns lay p (OfLeaf (Literal v)) t ks F xs
      → b ≡ BoundLocal (exactly v) → DidAt S ns p vars F xs b xs
  lit_done {v} {b} h e = leaf_done (Literal v) h b (sym e)

  pub variable_done : {n : ℕ} {b : AnyBound} → ReadyAt ns lay p (OfLeaf (Variable n)) t ks F xs
      → b ≡ cut_to (flat_maybes F.near) (variable_bound n vars) → DidAt S ns p vars F xs b xs
  variable_done {n} {b} h e =
      let m = seat_maybes (Plain t (Variable n)) (kept_before ns p) F.near in
      leaf_done (Variable n) h b (rw (m, e) refl)

  pub sense_done : {i : ℕ} {b : AnyBound} → ReadyAt ns lay p (OfLeaf (Sense i)) t ks F xs
      → b ≡ BoundLocal (input_bound (slice_get S.inputs i)) → DidAt S ns p vars F xs b xs
  sense_done {i} {b} h e = leaf_done (Sense i) h b (sym e)

  pub uid_done : {b : BoundValue} → ReadyAt ns lay p (OfLeaf Uid) t ks F xs
      → b ≡ Between (min S.device S.ceiling) (min S.device S.ceiling) → DidAt S ns p vars F xs (BoundLocal b) xs
  uid_done {b} h e = leaf_done Uid h (BoundLocal b) (rw e refl)

  pub links_done : {b : AnyBound} → ReadyAt ns lay p (OfLeaf NbrLink) t ks F xs
      → b ≡ BoundField (Between S.least S.least) (flat_entries flat_weight F.near) → DidAt S ns p vars F xs b xs
  links_done {b} h e =
      let w = weight_entries (Plain t NbrLink) (kept_before ns p) F.near in
      leaf_done NbrLink h b (rw (w, e) refl)
