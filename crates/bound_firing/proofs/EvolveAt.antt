-- A `rep` or `share` at a place of a program.
use Rattle.std.proofs.Common.{◌≡◌, ◌≢◌, ℕ, suc, ◌<◌, ◌+◌, List, ◌∷◌, length, refl, sym, ◌∙◌, ap, subst, arith, get_or}
use Rattle.std.proofs.Common.{length-set, Some}
use Rattle.std.specs.Prelude.{slice_set}
use Rattle.fc_values.specs.Types.{ValueType}
use Rattle.fc_values.specs.BuiltinTypes.{inner}
use Rattle.fc_nodes.specs.declared.nodes.Node.{Node}
use Rattle.fc_nodes.specs.Terms.{Evolution, ByRep, ByShare, Term, Evolve, OfEvolve, kept, kept_before, size, term_at}
use Rattle.fc_nodes.specs.Layouts.{LayoutValue, number_in}
use Rattle.fc_nodes.proofs.Places.{formed_above}
use Rattle.fc_nodes.proofs.Kids.{TwoKids, evolve_laid}
use Rattle.fc_nodes.proofs.Kept.{one_more, kept_size}
use Rattle.value_bounds.specs.BoundValues.{BoundValue}
use Rattle.value_bounds.specs.BoundBuiltins.{AnyBound, BoundLocal}
use Rattle.bound_firing.specs.BoundTrees.{slot_bound}
use Rattle.bound_firing.specs.Firing.{BoundSituation, BoundVars, local_part, evolving_bound}
use Rattle.bound_firing.specs.FlatSeats.{FlatSeats, seats_over, SlotsHave}
use Rattle.bound_firing.specs.Walks.{Can, Did, DidAt, Ready, ReadyAt, started}
use Rattle.bound_firing.proofs.Slots.{tree_same}
use Rattle.bound_firing.proofs.Seated.{first_seats, body_seats, evolve_entries, evolve_own}
use Rattle.bound_firing.proofs.Frames.{set_same, set_other, room_part, room_behind, reach_as}
use Rattle.bound_firing.proofs.KidsAt.{KidAt, kid_at, kid_ready, kid_did, slot_is}

starts : (t : ValueType) (a b : Term) (k : ℕ) (F : FlatSeats) (first : BoundValue) (e v : Evolution)
    → evolving_bound e (seats_over (Evolve t v a b) k F) first ≡ started e k F first
starts t a b k F first ByRep v = let o = evolve_own t v a b k F.own first in rw o refl
starts t a b k F first ByShare v =
    let o = evolve_own t v a b k F.own first in
    let n = evolve_entries t v a b k F.near in
    rw (o, n) refl

module _ (t : ValueType) (e : Evolution) (a b : Term) (k : ℕ) (F : FlatSeats) (xs : List BoundValue)
    (can : Can (Evolve t e a b) k F xs) where
  evolve_first : Can a (suc k) F xs
  evolve_first = record {
    room = room_part k (suc (kept a + kept b)) (suc k) (kept a) xs can.room (omega arith) (omega arith);
    reach = can.reach;
  }

  evolve_has : (k < length xs) × SlotsHave k F
  evolve_has = let w = can.room.within in let l : k < length xs = omega (arith, w) in (l, can.reach.each k l)

  module _ (S : BoundSituation) (p : ℕ) (vars : BoundVars) (va : AnyBound) (ys : List BoundValue)
      (did : Did S (suc p) a (suc k) vars F xs va ys) where
    evolve_second : Can b (suc k + kept a) F ys
    evolve_second = record {
      room = room_behind (suc k) (kept a) (suc k + kept a) (kept b) xs ys did.out
          (room_part k (suc (kept a + kept b)) (suc k + kept a) (kept b) xs can.room (omega arith) (omega arith))
          (omega arith);
      reach = reach_as (length xs) (length ys) F did.out.long can.reach;
    }

    evolve_did : (vb : AnyBound) (zs : List BoundValue)
        → Did S (suc p + size a) b (suc k + kept a) ((p, started e k F (local_part va)) ∷ vars) F ys vb zs
        → Did S p (Evolve t e a b) k vars F xs (BoundLocal (local_part vb)) (slice_set zs k (local_part vb))
    evolve_did vb zs did' =
        let final = slice_set zs k (local_part vb) in
        let long = did.out.long in
        let long' = did'.out.long in
        let h = evolve_has in
        let w = h.0 in
        let own = set_same k (local_part vb) zs (omega (arith, w, long, long')) in
        let other : (j : ℕ) → j ≢ k → slot_bound j zs
        ≡ slot_bound j final = λ j n. set_other j k (local_part vb) zs n in
        let ta = tree_same ys final a (suc k) (λ j l u. did'.out.before j (omega arith) ∙ other j (omega arith)) in
        let tb = tree_same zs final b (suc k + kept a) (λ j l u. other j (omega arith)) in
        let s = starts t a b k F (local_part va) e e in
        record {
          gives = rw (first_seats k F t e a b, did.gives, s, body_seats k F t e a b, did'.gives, own, ta, tb) refl;
          out = record {
            long = long ∙ long' ∙ sym (length-set zs k (local_part vb));
            before = λ j l. did.out.before j (omega arith) ∙ did'.out.before j (omega arith) ∙ other j (omega arith);
            behind = λ j l. did.out.behind j (omega arith) ∙ did'.out.behind j (omega arith) ∙ other j (omega arith);
          };
        }

module _ {ns : List Node} {lay : LayoutValue} {p : ℕ} {e : Evolution} {t : ValueType} {ks : List ℕ} {F : FlatSeats}
    {xs : List BoundValue} (here : ReadyAt ns lay p (OfEvolve e) t ks F xs) where
  pub evolve_kids : TwoKids ns p (Evolve t e) ks
  evolve_kids = evolve_laid ns (formed_above ns here.ready.stands.formed) p e t ks here.node here.ready.stands.laid

  abbrev A : Term
  A = term_at ns (get_or ks 0 0)

  abbrev B : Term
  B = term_at ns (get_or ks 1 0)

  abbrev K : ℕ
  K = kept_before ns p

  can_e : Can (Evolve t e A B) K F xs
  can_e = let o = evolve_kids in subst (λ u. Can u K F xs) o.term here.ready.can

  slot_0 : kept_before ns (get_or ks 0 0) ≡ suc K
  slot_0 = let o = evolve_kids in let k = one_more ns p (get_or ks 0 0) _ _ _ here.node o.first_is in omega (arith, k)

  slot_1 : kept_before ns (get_or ks 1 0) ≡ suc K + kept A
  slot_1 =
      let o = evolve_kids in
      let k = slot_0 in
      let i = o.first_is in
      let j = o.second_is in
      let s = kept_size ns A (get_or ks 0 0) (get_or ks 1 0) o.first (omega (arith, i, j)) in
      omega (arith, k, s)

  kid_a : (q : ℕ) → q ≡ get_or ks 0 q → KidAt ns lay p q (suc p) A (suc K)
  kid_a q h =
      let o = evolve_kids in
      let n = o.long in
      kid_at ns lay p here.ready.stands ks 0 q (suc p) (suc K) h (omega (arith, n)) (omega arith) o.first_is slot_0
      o.first

  kid_b : (q : ℕ) → q ≡ get_or ks 1 q → KidAt ns lay p q (suc p + size A) B (suc K + kept A)
  kid_b q h =
      let o = evolve_kids in
      let n = o.long in
      kid_at ns lay p here.ready.stands ks 1 q (suc p + size A) (suc K + kept A) h (omega (arith, n)) (omega arith)
      o.second_is slot_1 o.second

  pub evolve_slot : number_in lay p ≡ Some K
  evolve_slot = slot_is ns lay p here.ready.stands (OfEvolve e) t ks (inner t) here.node refl

  slot_as : {k : ℕ} → number_in lay p ≡ Some k → k ≡ K
  slot_as {k} n = let f = evolve_slot in cc

  pub evolve_there : {k : ℕ} → number_in lay p ≡ Some k → (k < length xs) × SlotsHave k F
  evolve_there {k} n = subst (λ j. (j < length xs) × SlotsHave j F) (sym (slot_as n)) (evolve_has t e A B K F xs can_e)

  pub evolve_a : {q : ℕ} → q ≡ get_or ks 0 q → (p < q) × Ready ns lay q F xs
  evolve_a {q} h =
      let c = kid_a q h in
      (c.later, kid_ready ns lay p q (suc p) A (suc K) c F xs (evolve_first t e A B K F xs can_e))

  module _ (S : BoundSituation) (vars : BoundVars) {q : ℕ} (h : q ≡ get_or ks 0 q) {va : AnyBound} {ys : List BoundValue}
      (did : DidAt S ns q vars F xs va ys) where
    did_a : Did S (suc p) A (suc K) vars F xs va ys
    did_a = kid_did ns lay p q (suc p) A (suc K) (kid_a q h) S vars F xs va ys did

    pub evolve_b : {q' : ℕ} → q' ≡ get_or ks 1 q' → (p < q') × Ready ns lay q' F ys
    evolve_b {q'} f =
        let c = kid_b q' f in (
          c.later,
          kid_ready ns lay p q' (suc p + size A) B (suc K + kept A) c F ys
              (evolve_second t e A B K F xs can_e S p vars va ys did_a),
        )

    pub evolve_within : {k : ℕ} → number_in lay p ≡ Some k → {q' : ℕ} {us : BoundVars} {vb : AnyBound}
        {zs : List BoundValue} → DidAt S ns q' us F ys vb zs → k < length zs
    evolve_within {k} n did' =
        let w = evolve_there n in
        let w' = w.0 in
        let l = did.out.long in
        let l' = did'.out.long in
        omega (arith, w', l, l')

    pub evolve_done : {k : ℕ} → number_in lay p ≡ Some k → {q' : ℕ} → q' ≡ get_or ks 1 q' → {x vb : AnyBound}
        {zs : List BoundValue} → x ≡ started e k F (local_part va) → DidAt S ns q' ((p, x) ∷ vars) F ys vb zs
        → DidAt S ns p vars F xs (BoundLocal (local_part vb)) (slice_set zs k (local_part vb))
    evolve_done {k} n {q'} f {x} {vb} {zs} s did' =
        let o = evolve_kids in
        let from : x ≡ started e K F (local_part va) = s ∙ ap (λ j. started e j F (local_part va)) (slot_as n) in
        let d : Did S (suc p + size A) B (suc K + kept A) ((p, started e K F (local_part va)) ∷ vars) F ys vb zs =
        kid_did ns lay p q' (suc p + size A) B (suc K + kept A) (kid_b q' f) S
        ((p, started e K F (local_part va)) ∷ vars) F ys vb zs
        (subst (λ y. DidAt S ns q' ((p, y) ∷ vars) F ys vb zs) from did') in
        subst (λ j. Did S p (term_at ns p) K vars F xs (BoundLocal (local_part vb)) (slice_set zs j (local_part vb)))
        (sym (slot_as n))
        (subst (λ u. Did S p u K vars F xs (BoundLocal (local_part vb)) (slice_set zs K (local_part vb))) (sym o.term)
        (evolve_did t e A B K F xs can_e S p vars va ys did_a vb zs d))

    pub evolve_kept : {k : ℕ} → number_in lay p ≡ Some k → {q' : ℕ} → q' ≡ get_or ks 1 q' → {x vb y : AnyBound}
        {zs ws : List BoundValue} → x ≡ started e k F (local_part va) → DidAt S ns q' ((p, x) ∷ vars) F ys vb zs
        → (y ≡ BoundLocal (local_part vb)) × (ws ≡ slice_set zs k (local_part vb)) → DidAt S ns p vars F xs y ws
    evolve_kept n f s did' h = rw (h.0, h.1) (evolve_done n f s did')
