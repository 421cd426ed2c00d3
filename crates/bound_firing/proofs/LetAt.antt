-- A `let` at a place of a program.
use Rattle.std.proofs.Common.{◌≡◌, ℕ, suc, ◌<◌, ◌+◌, List, ◌∷◌, length, refl, sym, ◌∙◌, subst, arith, get_or}
use Rattle.fc_values.specs.Types.{ValueType}
use Rattle.fc_nodes.specs.declared.nodes.Node.{Node}
use Rattle.fc_nodes.specs.Terms.{Term, Let, OfLet, kept, kept_before, size, term_at}
use Rattle.fc_nodes.specs.Layouts.{LayoutValue}
use Rattle.fc_nodes.proofs.Places.{formed_above}
use Rattle.fc_nodes.proofs.Kids.{TwoKids, let_laid}
use Rattle.fc_nodes.proofs.Kept.{one_more, kept_size}
use Rattle.value_bounds.specs.BoundValues.{BoundValue}
use Rattle.value_bounds.specs.BoundBuiltins.{AnyBound}
use Rattle.bound_firing.specs.Firing.{BoundSituation, BoundVars}
use Rattle.bound_firing.specs.FlatSeats.{FlatSeats}
use Rattle.bound_firing.specs.Walks.{Can, Did, DidAt, Ready, ReadyAt}
use Rattle.bound_firing.proofs.Slots.{tree_same}
use Rattle.bound_firing.proofs.Seated.{bound_seats, scope_seats}
use Rattle.bound_firing.proofs.Frames.{room_part, room_behind, reach_as}
use Rattle.bound_firing.proofs.KidsAt.{KidAt, kid_at, kid_ready, kid_did}

module _ (t : ValueType) (a b : Term) (k : ℕ) (F : FlatSeats) (xs : List BoundValue)
    (can : Can (Let t a b) k F xs) where
  let_first : Can a k F xs
  let_first = record {
    room = room_part k (kept a + kept b) k (kept a) xs can.room (omega arith) (omega arith);
    reach = can.reach;
  }

  module _ (S : BoundSituation) (p : ℕ) (vars : BoundVars) (va : AnyBound) (ys : List BoundValue)
      (did : Did S (suc p) a k vars F xs va ys) where
    let_second : Can b (k + kept a) F ys
    let_second = record {
      room = room_behind k (kept a) (k + kept a) (kept b) xs ys did.out
          (room_part k (kept a + kept b) (k + kept a) (kept b) xs can.room (omega arith) (omega arith)) (omega arith);
      reach = reach_as (length xs) (length ys) F did.out.long can.reach;
    }

    let_did : (vb : AnyBound) (zs : List BoundValue)
        → Did S (suc p + size a) b (k + kept a) ((p, va) ∷ vars) F ys vb zs → Did S p (Let t a b) k vars F xs vb zs
    let_did vb zs did' =
        let ta = tree_same ys zs a k (λ j l u. did'.out.before j u) in
        record {
          gives = rw (bound_seats k F t a b, did.gives, scope_seats k F t a b, did'.gives, ta) refl;
          out = record {
            long = did.out.long ∙ did'.out.long;
            before = λ j l. did.out.before j l ∙ did'.out.before j (omega arith);
            behind = λ j l. did.out.behind j (omega arith) ∙ did'.out.behind j (omega arith);
          };
        }

module _ {ns : List Node} {lay : LayoutValue} {p : ℕ} {t : ValueType} {ks : List ℕ} {F : FlatSeats}
    {xs : List BoundValue} (here : ReadyAt ns lay p OfLet t ks F xs) where
  pub let_kids : TwoKids ns p (Let t) ks
  let_kids = let_laid ns (formed_above ns here.ready.stands.formed) p t ks here.node here.ready.stands.laid

  abbrev A : Term
  A = term_at ns (get_or ks 0 0)

  abbrev B : Term
  B = term_at ns (get_or ks 1 0)

  abbrev K : ℕ
  K = kept_before ns p

  can_l : Can (Let t A B) K F xs
  can_l = let o = let_kids in subst (λ u. Can u K F xs) o.term here.ready.can

  slot_0 : kept_before ns (get_or ks 0 0) ≡ K
  slot_0 = let o = let_kids in let k = one_more ns p (get_or ks 0 0) _ _ _ here.node o.first_is in omega (arith, k)

  slot_1 : kept_before ns (get_or ks 1 0) ≡ K + kept A
  slot_1 =
      let o = let_kids in
      let k = slot_0 in
      let i = o.first_is in
      let j = o.second_is in
      let s = kept_size ns A (get_or ks 0 0) (get_or ks 1 0) o.first (omega (arith, i, j)) in
      omega (arith, k, s)

  kid_a : (q : ℕ) → q ≡ get_or ks 0 q → KidAt ns lay p q (suc p) A K
  kid_a q e =
      let o = let_kids in
      let n = o.long in
      kid_at ns lay p here.ready.stands ks 0 q (suc p) K e (omega (arith, n)) (omega arith) o.first_is slot_0 o.first

  kid_b : (q : ℕ) → q ≡ get_or ks 1 q → KidAt ns lay p q (suc p + size A) B (K + kept A)
  kid_b q e =
      let o = let_kids in
      let n = o.long in
      kid_at ns lay p here.ready.stands ks 1 q (suc p + size A) (K + kept A) e (omega (arith, n)) (omega arith)
      o.second_is slot_1 o.second

  pub let_value : {q : ℕ} → q ≡ get_or ks 0 q → (p < q) × Ready ns lay q F xs
  let_value {q} e =
      let c = kid_a q e in
      (c.later, kid_ready ns lay p q (suc p) A K c F xs (let_first t A B K F xs can_l))

  module _ (S : BoundSituation) (vars : BoundVars) {q : ℕ} (e : q ≡ get_or ks 0 q) {va : AnyBound} {ys : List BoundValue}
      (did : DidAt S ns q vars F xs va ys) where
    did_a : Did S (suc p) A K vars F xs va ys
    did_a = kid_did ns lay p q (suc p) A K (kid_a q e) S vars F xs va ys did

    pub let_body : {q' : ℕ} → q' ≡ get_or ks 1 q' → (p < q') × Ready ns lay q' F ys
    let_body {q'} f =
        let c = kid_b q' f in (
          c.later,
          kid_ready ns lay p q' (suc p + size A) B (K + kept A) c F ys
              (let_second t A B K F xs can_l S p vars va ys did_a),
        )

    pub let_done : {q' : ℕ} → q' ≡ get_or ks 1 q' → {vb : AnyBound} {zs : List BoundValue}
        → DidAt S ns q' ((p, va) ∷ vars) F ys vb zs → DidAt S ns p vars F xs vb zs
    let_done {q'} f {vb} {zs} did' =
        let o = let_kids in
        let d = kid_did ns lay p q' (suc p + size A) B (K + kept A) (kid_b q' f) S ((p, va) ∷ vars) F ys vb zs did' in
        subst (λ u. Did S p u K vars F xs vb zs) (sym o.term) (let_did t A B K F xs can_l S p vars va ys did_a vb zs d)
