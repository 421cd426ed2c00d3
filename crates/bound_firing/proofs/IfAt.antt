-- An `if` at a place of a program.
use Rattle.std.proofs.Common.{◌≡◌, ◌≢◌, ℕ, suc, ◌<◌, ◌+◌, List, length, refl, sym, ◌∙◌, ap, subst, arith, Bool, true}
use Rattle.std.proofs.Common.{false, Option, Some, None, get_or, length-set}
use Rattle.std.specs.Prelude.{slice_set}
use Rattle.fc_values.specs.Types.{ValueType, BoolType}
use Rattle.fc_nodes.specs.declared.nodes.Node.{Node}
use Rattle.fc_nodes.specs.Terms.{Term, If, OfIf, kept, kept_before, size, term_at}
use Rattle.fc_nodes.specs.Layouts.{LayoutValue, number_in}
use Rattle.fc_nodes.proofs.Places.{formed_above}
use Rattle.fc_nodes.proofs.Kids.{ThreeKids, if_laid}
use Rattle.fc_nodes.proofs.Kept.{one_more, kept_size}
use Rattle.value_bounds.specs.BoundValues.{BoundValue}
use Rattle.value_bounds.specs.BoundBuiltins.{AnyBound}
use Rattle.bound_firing.specs.BoundTrees.{BoundTree, Hold, Below, NoneBelow, slot_bound, bound_tree_at}
use Rattle.bound_firing.specs.Seats.{may_be, child_seats, branch_seats}
use Rattle.bound_firing.specs.Firing.{BoundSituation, BoundVars, BoundOutcome, local_part, either_bound, if_taken, bound_of}
use Rattle.bound_firing.specs.FlatSeats.{FlatSeats, seats_over, flat_branch, SlotsHave}
use Rattle.bound_firing.specs.Walks.{Room, SameOut, Can, Did, DidAt, Ready, ReadyAt, BranchReady, BranchDid, one_of}
use Rattle.bound_firing.proofs.Slots.{tree_same, tree_blank}
use Rattle.bound_firing.proofs.Seated.{condition_seats, then_seats, else_seats, branch_taken}
use Rattle.bound_firing.proofs.Frames.{set_same, set_other, room_part, room_behind, room_set, same_out, reach_as}
use Rattle.bound_firing.proofs.Frames.{reach_branch}
use Rattle.bound_firing.proofs.KidsAt.{KidAt, kid_at, kid_ready, kid_did, slot_is}

-- ---- a branch

-- a branch of the term u was evaluated or not
abbrev Turn : BoundSituation → ℕ → Term → ℕ → ℕ → Bool → BoundVars → FlatSeats → List BoundValue → Option AnyBound
    → List BoundValue → Type 0
Turn S p u l k truth vars F xs None ys = (may_be truth (slot_bound k xs) ≡ false) × (ys ≡ xs)
Turn S p u l k truth vars F xs (Some b) ys =
    (may_be truth (slot_bound k xs) ≡ true) × Did S p u l vars (flat_branch k truth F) xs b ys

-- the bound of its value, if it may be taken
abbrev Value : Bool → BoundOutcome → Option AnyBound → Type 0
Value m r None = m ≡ false
Value m r (Some b) = (m ≡ true) × (r.0 ≡ b)

record Took (m : Bool) (r : BoundOutcome) (u : Term) (l : ℕ) (o : Option AnyBound) (xs ys : List BoundValue)
    : Type 0 where
  pub value : Value m r o
  pub tree : if_taken m u r.1 ≡ bound_tree_at u l ys
  pub out : SameOut l (kept u) xs ys

module _ (S : BoundSituation) (p : ℕ) (u : Term) (l k : ℕ) (truth : Bool) (vars : BoundVars) (F : FlatSeats)
    (xs : List BoundValue) (room : Room l (kept u) xs) where
  took : (o : Option AnyBound) (ys : List BoundValue) → Turn S p u l k truth vars F xs o ys
      → Took (may_be truth (slot_bound k xs)) (bound_of S p u vars (seats_over u l (flat_branch k truth F))) u l o xs ys
  took None ys h =
      let m = h.0 in
      let e = h.1 in
      let t = tree_blank xs u l room.clear in
      record { value = m; tree = rw (m, e, t) refl; out = rw e (same_out l (kept u) xs) }
  took (Some b) ys h =
      let m = h.0 in
      let d = h.1 in
      let g = d.gives in
      record { value = (m, rw g refl); tree = rw (m, g) refl; out = d.out }

one_is : (m n : Bool) (r s : BoundOutcome) (o w : Option AnyBound) → Value m r o → Value n s w
    → either_bound m n r.0 s.0 ≡ one_of o w
one_is m n r s (Some a) (Some b) g h = rw (g.0, g.1, h.0, h.1) refl
one_is m n r s (Some a) None g h = rw (g.0, g.1, h) refl
one_is m n r s None (Some b) g h = rw (g, h.0, h.1) refl
one_is m n r s None None g h = rw (g, h) refl

-- ---- the node

abbrev outcome : AnyBound → BoundValue → BoundTree → BoundTree → BoundTree → BoundOutcome
outcome x h c a b = (x, Hold h (Below c (Below a (Below b NoneBelow))))

outcome_is : (x x' : AnyBound) (h h' : BoundValue) (c c' a a' b b' : BoundTree) → x ≡ x' → h ≡ h' → c ≡ c' → a ≡ a'
    → b ≡ b' → outcome x h c a b ≡ outcome x' h' c' a' b'
outcome_is x x' h h' c c' a a' b b' ex eh ec ea eb = rw (ex, eh, ec, ea, eb) refl

module _ (t : ValueType) (c a b : Term) (k : ℕ) (F : FlatSeats) (xs : List BoundValue)
    (can : Can (If t c a b) k F xs) where
  if_first : Can c (suc k) F xs
  if_first = record {
    room = room_part k (suc (kept c + kept a + kept b)) (suc k) (kept c) xs can.room (omega arith) (omega arith);
    reach = can.reach;
  }

  if_has : (k < length xs) × SlotsHave k F
  if_has = let w = can.room.within in let l : k < length xs = omega (arith, w) in (l, can.reach.each k l)

  module _ (S : BoundSituation) (p : ℕ) (vars : BoundVars) (vc : AnyBound) (ys : List BoundValue)
      (did : Did S (suc p) c (suc k) vars F xs vc ys) where
    abbrev zs : List BoundValue
    zs = slice_set ys k (local_part vc)

    ys_long : k < length ys
    ys_long = let h = if_has in let w = h.0 in let e = did.out.long in omega (arith, w, e)

    held_there : slot_bound k zs ≡ local_part vc
    held_there = set_same k (local_part vc) ys ys_long

    zs_long : length xs ≡ length zs
    zs_long = did.out.long ∙ sym (length-set ys k (local_part vc))

    first_room : Room (suc k + kept c) (kept a) zs
    first_room = room_set k (local_part vc) (suc k + kept c) (kept a) ys (omega arith)
        (room_behind (suc k) (kept c) (suc k + kept c) (kept a) xs ys did.out
        (room_part k (suc (kept c + kept a + kept b)) (suc k + kept c) (kept a) xs can.room (omega arith) (omega arith))
        (omega arith))

    second_room : Room (suc k + kept c + kept a) (kept b) zs
    second_room = room_set k (local_part vc) (suc k + kept c + kept a) (kept b) ys (omega arith)
        (room_behind (suc k) (kept c) (suc k + kept c + kept a) (kept b) xs ys did.out
        (room_part k (suc (kept c + kept a + kept b)) (suc k + kept c + kept a) (kept b) xs can.room (omega arith)
        (omega arith)) (omega arith))

    if_second : Can a (suc k + kept c) (flat_branch k true F) zs
    if_second = record {
      room = first_room;
      reach = reach_branch (length zs) k true F (reach_as (length xs) (length zs) F zs_long can.reach);
    }

    module _ (o : Option AnyBound) (us : List BoundValue)
        (turn : Turn S (suc p + size c) a (suc k + kept c) k true vars F zs o us) where
      abbrev first_outcome : BoundOutcome
      first_outcome = bound_of S (suc p + size c) a vars (seats_over a (suc k + kept c) (flat_branch k true F))

      first : Took (may_be true (slot_bound k zs)) first_outcome a (suc k + kept c) o zs us
      first = took S (suc p + size c) a (suc k + kept c) k true vars F zs first_room o us turn

      last_room : Room (suc k + kept c + kept a) (kept b) us
      last_room =
          let f = first in
          room_behind (suc k + kept c) (kept a) (suc k + kept c + kept a) (kept b) zs us f.out second_room (omega arith)

      us_long : length xs ≡ length us
      us_long = let f = first in zs_long ∙ f.out.long

      if_third : Can b (suc k + kept c + kept a) (flat_branch k false F) us
      if_third = record {
        room = last_room;
        reach = reach_branch (length us) k false F (reach_as (length xs) (length us) F us_long can.reach);
      }

      still_held : slot_bound k us ≡ slot_bound k zs
      still_held = let f = first in sym (f.out.before k (omega arith))

      module _ (w : Option AnyBound) (vs : List BoundValue)
          (turn' : Turn S (suc p + size c + size a) b (suc k + kept c + kept a) k false vars F us w vs) where
        abbrev second_outcome : BoundOutcome
        second_outcome =
            bound_of S (suc p + size c + size a) b vars
            (seats_over b (suc k + kept c + kept a) (flat_branch k false F))

        second : Took (may_be false (slot_bound k us)) second_outcome b (suc k + kept c + kept a) w us vs
        second = took S (suc p + size c + size a) b (suc k + kept c + kept a) k false vars F us last_room w vs turn'

        true_seats : child_seats 1 (branch_seats true (seats_over (If t c a b) k F))
            ≡ seats_over a (suc k + kept c) (flat_branch k true F)
        true_seats = ap (child_seats 1) (branch_taken t c a b k true F) ∙ then_seats k (flat_branch k true F) t c a b

        false_seats : child_seats 2 (branch_seats false (seats_over (If t c a b) k F))
            ≡ seats_over b (suc k + kept c + kept a) (flat_branch k false F)
        false_seats =
            ap (child_seats 2) (branch_taken t c a b k false F) ∙ else_seats k (flat_branch k false F) t c a b

        may_true : may_be true (local_part vc) ≡ may_be true (slot_bound k zs)
        may_true = ap (may_be true) (sym held_there)

        may_false : may_be false (local_part vc) ≡ may_be false (slot_bound k us)
        may_false = ap (may_be false) (sym held_there ∙ sym still_held)

        other : (j : ℕ) → j ≢ k → slot_bound j ys ≡ slot_bound j zs
        other j n = set_other j k (local_part vc) ys n

        if_gives : bound_of S p (If t c a b) vars (seats_over (If t c a b) k F)
            ≡ (one_of o w, bound_tree_at (If t c a b) k vs)
        if_gives =
            let f = first in
            let s = second in
            let held : local_part vc ≡ slot_bound k vs =
            sym held_there ∙ sym still_held ∙ s.out.before k (omega arith) in
            let tc = tree_same ys vs c (suc k) (λ j l u. other j (omega arith) ∙ f.out.before j (omega arith)
            ∙ s.out.before j (omega arith)) in
            let ta = tree_same us vs a (suc k + kept c) (λ j l u. s.out.before j u) in
            let value : either_bound (may_be true (local_part vc)) (may_be false (local_part vc)) first_outcome.0
            second_outcome.0 ≡ one_of o w =
            rw (may_true, may_false) (one_is _ _ first_outcome second_outcome o w f.value s.value) in
            let ea : if_taken (may_be true (local_part vc)) a first_outcome.1 ≡ bound_tree_at a (suc k + kept c) vs =
            rw may_true (f.tree ∙ ta) in
            let eb : if_taken (may_be false (local_part vc)) b second_outcome.1
            ≡ bound_tree_at b (suc k + kept c + kept a) vs = rw may_false s.tree in
            rw (condition_seats k F t c a b, did.gives, true_seats, false_seats)
            (outcome_is _ _ _ _ _ _ _ _ _ _ value held tc ea eb)

        if_did : Did S p (If t c a b) k vars F xs (one_of o w) vs
        if_did =
            let f = first in
            let s = second in
            record {
              gives = if_gives;
              out = record {
                long = zs_long ∙ f.out.long ∙ s.out.long;
                before = λ j l. did.out.before j (omega arith) ∙ other j (omega arith) ∙ f.out.before j (omega arith)
                    ∙ s.out.before j (omega arith);
                behind = λ j l. did.out.behind j (omega arith) ∙ other j (omega arith) ∙ f.out.behind j (omega arith)
                    ∙ s.out.behind j (omega arith);
              };
            }

-- ---- at a place

turn_at : (S : BoundSituation) (ns : List Node) (lay : LayoutValue) (p q there : ℕ) (u : Term) (l : ℕ)
    → KidAt ns lay p q there u l → (k : ℕ) (truth : Bool) (vars : BoundVars) (F : FlatSeats) (xs : List BoundValue)
    (o : Option AnyBound) (ys : List BoundValue) → BranchDid S ns q k truth vars F xs o ys
    → Turn S there u l k truth vars F xs o ys
turn_at S ns lay p q there u l kid k truth vars F xs None ys h = h
turn_at S ns lay p q there u l kid k truth vars F xs (Some b) ys h =
    (h.0, kid_did ns lay p q there u l kid S vars (flat_branch k truth F) xs b ys h.1)

module _ {ns : List Node} {lay : LayoutValue} {p : ℕ} {t : ValueType} {ks : List ℕ} {F : FlatSeats}
    {xs : List BoundValue} (here : ReadyAt ns lay p OfIf t ks F xs) where
  pub if_kids : ThreeKids ns p (If t) ks
  if_kids = if_laid ns (formed_above ns here.ready.stands.formed) p t ks here.node here.ready.stands.laid

  abbrev C : Term
  C = term_at ns (get_or ks 0 0)

  abbrev A : Term
  A = term_at ns (get_or ks 1 0)

  abbrev B : Term
  B = term_at ns (get_or ks 2 0)

  abbrev K : ℕ
  K = kept_before ns p

  can_i : Can (If t C A B) K F xs
  can_i = let o = if_kids in subst (λ u. Can u K F xs) o.term here.ready.can

  slot_0 : kept_before ns (get_or ks 0 0) ≡ suc K
  slot_0 = let o = if_kids in let k = one_more ns p (get_or ks 0 0) _ _ _ here.node o.first_is in omega (arith, k)

  slot_1 : kept_before ns (get_or ks 1 0) ≡ suc K + kept C
  slot_1 =
      let o = if_kids in
      let k = slot_0 in
      let i = o.first_is in
      let j = o.second_is in
      let s = kept_size ns C (get_or ks 0 0) (get_or ks 1 0) o.first (omega (arith, i, j)) in
      omega (arith, k, s)

  slot_2 : kept_before ns (get_or ks 2 0) ≡ suc K + kept C + kept A
  slot_2 =
      let o = if_kids in
      let k = slot_1 in
      let i = o.second_is in
      let j = o.third_is in
      let s = kept_size ns A (get_or ks 1 0) (get_or ks 2 0) o.second (omega (arith, i, j)) in
      omega (arith, k, s)

  kid_c : (q : ℕ) → q ≡ get_or ks 0 q → KidAt ns lay p q (suc p) C (suc K)
  kid_c q e =
      let o = if_kids in
      let n = o.long in
      kid_at ns lay p here.ready.stands ks 0 q (suc p) (suc K) e (omega (arith, n)) (omega arith) o.first_is slot_0
      o.first

  kid_a : (q : ℕ) → q ≡ get_or ks 1 q → KidAt ns lay p q (suc p + size C) A (suc K + kept C)
  kid_a q e =
      let o = if_kids in
      let n = o.long in
      kid_at ns lay p here.ready.stands ks 1 q (suc p + size C) (suc K + kept C) e (omega (arith, n)) (omega arith)
      o.second_is slot_1 o.second

  kid_b : (q : ℕ) → q ≡ get_or ks 2 q → KidAt ns lay p q (suc p + size C + size A) B (suc K + kept C + kept A)
  kid_b q e =
      let o = if_kids in
      let n = o.long in
      kid_at ns lay p here.ready.stands ks 2 q (suc p + size C + size A) (suc K + kept C + kept A) e
      (omega (arith, n)) (omega arith) o.third_is slot_2 o.third

  pub if_slot : number_in lay p ≡ Some K
  if_slot = slot_is ns lay p here.ready.stands OfIf t ks BoolType here.node refl

  slot_as : {k : ℕ} → number_in lay p ≡ Some k → k ≡ K
  slot_as {k} n = let f = if_slot in cc

  pub if_condition : {q : ℕ} → q ≡ get_or ks 0 q → (p < q) × Ready ns lay q F xs
  if_condition {q} e =
      let c = kid_c q e in
      (c.later, kid_ready ns lay p q (suc p) C (suc K) c F xs (if_first t C A B K F xs can_i))

  module _ (S : BoundSituation) (vars : BoundVars) {k : ℕ} (n : number_in lay p ≡ Some k) {q : ℕ} (e : q ≡ get_or ks 0 q)
      {vc : AnyBound} {ys : List BoundValue} (did : DidAt S ns q vars F xs vc ys) {zs : List BoundValue}
      (set : zs ≡ slice_set ys k (local_part vc)) where
    did_c : Did S (suc p) C (suc K) vars F xs vc ys
    did_c = kid_did ns lay p q (suc p) C (suc K) (kid_c q e) S vars F xs vc ys did

    set_k : slice_set ys K (local_part vc) ≡ zs
    set_k = sym (set ∙ ap (λ j. slice_set ys j (local_part vc)) (slot_as n))

    pub if_there : k < length ys
    if_there = let s = slot_as n in let w = ys_long t C A B K F xs can_i S p vars vc ys did_c in omega (arith, s, w)

    has_k : SlotsHave k F
    has_k = let h = if_has t C A B K F xs can_i in subst (λ j. SlotsHave j F) (sym (slot_as n)) h.1

    zs_within : k < length zs
    zs_within =
        let w = if_there in
        let l = length-set ys k (local_part vc) in
        let s = ap length set in
        omega (arith, w, l, s)

    pub if_true : {q' : ℕ} → q' ≡ get_or ks 1 q' → (p < q') × BranchReady ns lay q' k true F zs
    if_true {q'} f =
        let c = kid_a q' f in
        let can' = subst (λ us. Can A (suc K + kept C) (flat_branch K true F) us) set_k
        (if_second t C A B K F xs can_i S p vars vc ys did_c) in
        let r = kid_ready ns lay p q' (suc p + size C) A (suc K + kept C) c (flat_branch K true F) zs can' in (
          c.later,
          record {
            ready = subst (λ j. Ready ns lay q' (flat_branch j true F) zs) (sym (slot_as n)) r;
            within = zs_within;
            has = has_k;
          },
        )

    module _ {q' : ℕ} (f : q' ≡ get_or ks 1 q') (o : Option AnyBound) (us : List BoundValue)
        (turn : BranchDid S ns q' k true vars F zs o us) where
      turn_a : Turn S (suc p + size C) A (suc K + kept C) K true vars F (slice_set ys K (local_part vc)) o us
      turn_a =
          subst (λ vs. Turn S (suc p + size C) A (suc K + kept C) K true vars F vs o us) (sym set_k)
          (turn_at S ns lay p q' (suc p + size C) A (suc K + kept C) (kid_a q' f) K true vars F zs o us
          (subst (λ j. BranchDid S ns q' j true vars F zs o us) (slot_as n) turn))

      us_within : k < length us
      us_within =
          let l = us_long t C A B K F xs can_i S p vars vc ys did_c o us turn_a in
          let h = if_has t C A B K F xs can_i in
          let w = h.0 in
          let s = slot_as n in
          omega (arith, l, w, s)

      pub if_false : {q'' : ℕ} → q'' ≡ get_or ks 2 q'' → (p < q'') × BranchReady ns lay q'' k false F us
      if_false {q''} g =
          let c = kid_b q'' g in
          let can' = if_third t C A B K F xs can_i S p vars vc ys did_c o us turn_a in
          let r = kid_ready ns lay p q'' (suc p + size C + size A) B (suc K + kept C + kept A) c (flat_branch K false F)
          us can' in (
            c.later,
            record {
              ready = subst (λ j. Ready ns lay q'' (flat_branch j false F) us) (sym (slot_as n)) r;
              within = us_within;
              has = has_k;
            },
          )

      pub if_done : {q'' : ℕ} → q'' ≡ get_or ks 2 q'' → (w : Option AnyBound) (vs : List BoundValue)
          → BranchDid S ns q'' k false vars F us w vs → {b : AnyBound} → b ≡ one_of o w → DidAt S ns p vars F xs b vs
      if_done {q''} g w vs turn' {b} is =
          let i = if_kids in
          let turn_b : Turn S (suc p + size C + size A) B (suc K + kept C + kept A) K false vars F us w vs =
          turn_at S ns lay p q'' (suc p + size C + size A) B (suc K + kept C + kept A) (kid_b q'' g) K false vars F us
          w vs (subst (λ j. BranchDid S ns q'' j false vars F us w vs) (slot_as n) turn') in
          subst (λ u. Did S p u K vars F xs b vs) (sym i.term)
          (subst (λ x. Did S p (If t C A B) K vars F xs x vs) (sym is)
          (if_did t C A B K F xs can_i S p vars vc ys did_c o us turn_a w vs turn_b))
