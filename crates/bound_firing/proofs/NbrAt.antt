-- An `nbr` at a place of a program.
use Rattle.std.proofs.Common.{◌≡◌, ◌≢◌, ℕ, suc, ◌<◌, List, length, refl, sym, ◌∙◌, subst, arith, get_or, length-set}
use Rattle.std.proofs.Common.{Some}
use Rattle.std.specs.Prelude.{slice_set}
use Rattle.fc_values.specs.Types.{ValueType}
use Rattle.fc_values.specs.BuiltinTypes.{inner}
use Rattle.fc_nodes.specs.declared.nodes.Node.{Node}
use Rattle.fc_nodes.specs.Terms.{Term, Nbr, OfNbr, kept, kept_before, term_at}
use Rattle.fc_nodes.specs.Layouts.{LayoutValue, number_in}
use Rattle.fc_nodes.proofs.Places.{formed_above}
use Rattle.fc_nodes.proofs.Kids.{OneKid, nbr_laid}
use Rattle.fc_nodes.proofs.Kept.{one_more}
use Rattle.value_bounds.specs.BoundValues.{BoundValue}
use Rattle.value_bounds.specs.BoundBuiltins.{AnyBound, BoundField}
use Rattle.bound_firing.specs.BoundTrees.{slot_bound}
use Rattle.bound_firing.specs.Firing.{BoundSituation, BoundVars, local_part}
use Rattle.bound_firing.specs.FlatSeats.{FlatSeats, flat_entries, flat_slot, SlotsHave}
use Rattle.bound_firing.specs.Walks.{Can, Did, DidAt, Ready, ReadyAt}
use Rattle.bound_firing.proofs.Slots.{tree_same}
use Rattle.bound_firing.proofs.Seated.{nbr_seats, nbr_entries}
use Rattle.bound_firing.proofs.Frames.{set_same, set_other, room_part}
use Rattle.bound_firing.proofs.KidsAt.{KidAt, kid_at, kid_ready, kid_did, slot_is}

module _ (t : ValueType) (a : Term) (k : ℕ) (F : FlatSeats) (xs : List BoundValue) (can : Can (Nbr t a) k F xs) where
  nbr_first : Can a (suc k) F xs
  nbr_first = record {
    room = room_part k (suc (kept a)) (suc k) (kept a) xs can.room (omega arith) (omega arith);
    reach = can.reach;
  }

  nbr_has : (k < length xs) × SlotsHave k F
  nbr_has = let w = can.room.within in let l : k < length xs = omega (arith, w) in (l, can.reach.each k l)

  nbr_did : (S : BoundSituation) (p : ℕ) (vars : BoundVars) (va : AnyBound) (ys : List BoundValue)
      → Did S (suc p) a (suc k) vars F xs va ys
      → Did S p (Nbr t a) k vars F xs (BoundField (local_part va) (flat_entries (flat_slot k) F.near))
      (slice_set ys k (local_part va))
  nbr_did S p vars va ys did =
      let final = slice_set ys k (local_part va) in
      let long = did.out.long in
      let h = nbr_has in
      let w = h.0 in
      let own = set_same k (local_part va) ys (omega (arith, w, long)) in
      let other : (j : ℕ) → j ≢ k → slot_bound j ys ≡ slot_bound j final = λ j n. set_other j k (local_part va) ys n in
      let ta = tree_same ys final a (suc k) (λ j l u. other j (omega arith)) in
      record {
        gives = rw (nbr_seats k F t a, did.gives, nbr_entries t a k F.near, own, ta) refl;
        out = record {
          long = long ∙ sym (length-set ys k (local_part va));
          before = λ j l. did.out.before j (omega arith) ∙ other j (omega arith);
          behind = λ j l. did.out.behind j (omega arith) ∙ other j (omega arith);
        };
      }

module _ {ns : List Node} {lay : LayoutValue} {p : ℕ} {t : ValueType} {ks : List ℕ} {F : FlatSeats}
    {xs : List BoundValue} (here : ReadyAt ns lay p OfNbr t ks F xs) where
  pub nbr_kids : OneKid ns p (Nbr t) ks
  nbr_kids = nbr_laid ns (formed_above ns here.ready.stands.formed) p t ks here.node here.ready.stands.laid

  abbrev A : Term
  A = term_at ns (get_or ks 0 0)

  abbrev K : ℕ
  K = kept_before ns p

  can_n : Can (Nbr t A) K F xs
  can_n = let o = nbr_kids in subst (λ u. Can u K F xs) o.term here.ready.can

  slot_0 : kept_before ns (get_or ks 0 0) ≡ suc K
  slot_0 = let o = nbr_kids in let k = one_more ns p (get_or ks 0 0) _ _ _ here.node o.first_is in omega (arith, k)

  kid_a : (q : ℕ) → q ≡ get_or ks 0 q → KidAt ns lay p q (suc p) A (suc K)
  kid_a q e =
      let o = nbr_kids in
      let n = o.long in
      kid_at ns lay p here.ready.stands ks 0 q (suc p) (suc K) e (omega (arith, n)) (omega arith) o.first_is slot_0
      o.first

  pub nbr_slot : number_in lay p ≡ Some K
  nbr_slot = slot_is ns lay p here.ready.stands OfNbr t ks (inner t) here.node refl

  slot_as : {k : ℕ} → number_in lay p ≡ Some k → k ≡ K
  slot_as {k} e = let f = nbr_slot in cc

  pub nbr_there : {k : ℕ} → number_in lay p ≡ Some k → (k < length xs) × SlotsHave k F
  nbr_there {k} e = subst (λ j. (j < length xs) × SlotsHave j F) (sym (slot_as e)) (nbr_has t A K F xs can_n)

  pub nbr_kid : {q : ℕ} → q ≡ get_or ks 0 q → (p < q) × Ready ns lay q F xs
  nbr_kid {q} e =
      let c = kid_a q e in
      (c.later, kid_ready ns lay p q (suc p) A (suc K) c F xs (nbr_first t A K F xs can_n))

  pub nbr_within : {k : ℕ} → number_in lay p ≡ Some k → {S : BoundSituation} {vars : BoundVars} {q : ℕ} {va : AnyBound}
      {ys : List BoundValue} → DidAt S ns q vars F xs va ys → k < length ys
  nbr_within {k} n did =
      let w = nbr_there n in
      let w' = w.0 in
      let l = did.out.long in
      omega (arith, w', l)

  pub nbr_done : (S : BoundSituation) (vars : BoundVars) {q : ℕ} → q ≡ get_or ks 0 q → {k : ℕ} → number_in lay p ≡ Some k
      → {va : AnyBound} {ys : List BoundValue} → DidAt S ns q vars F xs va ys
      → DidAt S ns p vars F xs (BoundField (local_part va) (flat_entries (flat_slot k) F.near))
      (slice_set ys k (local_part va))
  nbr_done S vars {q} e {k} n {va} {ys} did =
      let o = nbr_kids in
      let d = kid_did ns lay p q (suc p) A (suc K) (kid_a q e) S vars F xs va ys did in
      subst (λ j. Did S p (term_at ns p) K vars F xs (BoundField (local_part va) (flat_entries (flat_slot j) F.near))
      (slice_set ys j (local_part va))) (sym (slot_as n))
      (subst (λ u. Did S p u K vars F xs (BoundField (local_part va) (flat_entries (flat_slot K) F.near))
      (slice_set ys K (local_part va))) (sym o.term) (nbr_did t A K F xs can_n S p vars va ys d))

  pub nbr_heard : (S : BoundSituation) (vars : BoundVars) {q : ℕ} → q ≡ get_or ks 0 q → {k : ℕ}
      → number_in lay p ≡ Some k → {va x : AnyBound} {ys zs : List BoundValue} → DidAt S ns q vars F xs va ys
      → (x ≡ BoundField (local_part va) (flat_entries (flat_slot k) F.near)) × (zs ≡ slice_set ys k (local_part va))
      → DidAt S ns p vars F xs x zs
  nbr_heard S vars e n did h = rw (h.0, h.1) (nbr_done S vars e n did)
