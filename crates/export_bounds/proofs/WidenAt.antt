-- Either of two bounds at the places of a program.
use Rattle.std.proofs.Common.{◌≡◌, ℕ, suc, ◌<◌, ◌≤◌, ◌+◌, List, ◌∷◌, length, refl, sym, ◌∙◌, ap, subst}
use Rattle.std.proofs.Common.{arith, true, false, get_or, drop}
use Rattle.std.proofs.Math.Seq.{drop-cons}
use Rattle.std.proofs.lemmas.List.{drop_all}
use Rattle.fc_values.specs.Types.{ValueType}
use Rattle.fc_nodes.specs.declared.nodes.Node.{Node}
use Rattle.fc_nodes.specs.Terms.{Term, If, Sort, HasNode, kept, kept_all, kept_type, is_branching, term_at}
use Rattle.fc_nodes.specs.Terms.{terms_by}
use Rattle.fc_nodes.specs.Places.{StandsAt}
use Rattle.fc_nodes.proofs.Places.{AllAbove}
use Rattle.fc_nodes.proofs.Kids.{ThreeKids, kids_are, kids_of, own_type, own_is, branches_is}
use Rattle.fc_nodes.proofs.Kids.{if_sort, kids_stand, three, kid_at, kid_stands}
use Rattle.value_trees.specs.SlotFits.{after_own}
use Rattle.value_bounds.specs.declared.bounds.LocalBound.{LocalBound}
use Rattle.value_bounds.specs.BoundValues.{BoundValue}
use Rattle.value_bounds.specs.References.{local_bounds_in}
use Rattle.bound_firing.specs.BoundTrees.{slot_bound}
use Rattle.export_bounds.specs.declared.either.Side.{Side}
use Rattle.export_bounds.specs.Widening.{side_in, AreThere, SlotWidened, Widened, AllWidened}
use Rattle.export_bounds.specs.Widening.{OwnWidened, CanWiden, CanWidenAll}
use Rattle.export_bounds.proofs.Sides.{none_widened, more_widened, after_is, kept_is, node_widened}
use Rattle.export_bounds.proofs.Sides.{if_widened}

-- ---- a node that is no `if`

-- fewer slots are there too
fewer : (m n : ℕ) (xs ys us : List LocalBound) → m ≤ n → length us ≡ length ys → AreThere n xs ys → AreThere m xs us
fewer m n xs ys us l e h =
    let f = h.first in
    let g = h.second in
    record { first = omega (arith, l, f); second = omega (arith, l, e, g) }

own_first : (u : Term) (k : ℕ) → after_own (own_type u) k + kept_all (kids_of u) ≡ k + kept u
own_first u k = let a = after_is (own_type u) k in let q = kept_is u in omega (arith, a, q)

module _ {ns : List Node} (ab : AllAbove ns) {p k : ℕ} {xs ys : List LocalBound} (can : CanWiden ns p k xs ys)
    {s : Sort} {t : ValueType} {ks : List ℕ} (h : HasNode ns p s t ks) where
  own_same : kept_type s t ≡ own_type (term_at ns p)
  own_same = own_is ns s t ks (term_at ns p) p h can.stands.laid

  kids_same : kids_of (term_at ns p) ≡ terms_by (term_at ns) ks
  kids_same = let i = kids_are ns ab p s t ks h can.stands.laid in i.kids

  all_slots : after_own (kept_type s t) k + kept_all (terms_by (term_at ns) ks) ≡ k + kept (term_at ns p)
  all_slots =
      ap (λ o. after_own o k + kept_all (terms_by (term_at ns) ks)) own_same
      ∙ ap (λ us. after_own (own_type (term_at ns p)) k + kept_all us) (sym kids_same) ∙ own_first (term_at ns p) k

  pub own_there : AreThere (after_own (kept_type s t) k) xs ys
  own_there =
      let e = all_slots in
      fewer (after_own (kept_type s t) k) (k + kept (term_at ns p)) xs ys ys (omega (arith, e)) refl can.within

  pub kids_there : {qs : List ℕ} → qs ≡ ks → {from : ℕ} → from ≡ after_own (kept_type s t) k → {us : List LocalBound}
      → length us ≡ length ys → CanWidenAll ns p qs from xs us
  kids_there {qs} e {from} f {us} l =
      let a = all_slots in
      subst (λ js. CanWidenAll ns p js from xs us) (sym e) (record {
        stand = kids_stand ns ab p can.stands s t ks h;
        within = fewer (from + kept_all (terms_by (term_at ns) ks)) (k + kept (term_at ns p)) xs ys us
            (omega (arith, a, f)) l can.within;
      })

  pub node_done : is_branching s ≡ false → {w : Side} {vs os us zs : List BoundValue} {n m : ℕ}
      → OwnWidened w (kept_type s t) k vs os us n → {qs : List ℕ} → qs ≡ ks
      → AllWidened w (terms_by (term_at ns) qs) n vs us zs m → Widened w (term_at ns p) k vs os zs m
  node_done b {w} {vs} {os} {us} {zs} {n} {m} o {qs} e all =
      node_widened w (term_at ns p) k vs os us zs n m
      (sym (branches_is ns s t ks (term_at ns p) p h can.stands.laid) ∙ b)
      (subst (λ i. OwnWidened w i k vs os us n) own_same o)
      (subst (λ ts. AllWidened w ts n vs us zs m) (ap (terms_by (term_at ns)) e ∙ sym kids_same) all)

-- ---- an `if`

module _ {ns : List Node} (ab : AllAbove ns) {p k : ℕ} {xs ys : List LocalBound} (can : CanWiden ns p k xs ys)
    {s : Sort} {t : ValueType} {ks : List ℕ} (h : HasNode ns p s t ks) (branching : is_branching s ≡ true) where
  if_kids : ThreeKids ns p (If t) ks
  if_kids = three ns ab p can.stands s t ks h branching

  pub if_long : length ks ≡ 3
  if_long = let i = if_kids in i.long

  pub slot_there : AreThere (k + 1) xs ys
  slot_there =
      let own : AreThere (suc k) xs ys =
      subst (λ o. AreThere (after_own (kept_type o t) k) xs ys) (if_sort s branching) (own_there ab can h) in
      fewer (k + 1) (suc k) xs ys ys (omega arith) refl own

  place_of : (i q : ℕ) → q ≡ get_or ks i q → i < 3 → q ≡ get_or ks i 0
  place_of i q e l = kid_at ns ab p can.stands s t ks h branching i q e l

  stands_there : (i q : ℕ) → q ≡ get_or ks i q → i < 3 → (p < q) × (q < length ns) × StandsAt ns q
  stands_there i q e l = kid_stands ns ab p can.stands s t ks h branching i q e l

  module _ {q0 q1 q2 : ℕ} (f0 : q0 ≡ get_or ks 0 q0) (f1 : q1 ≡ get_or ks 1 q1) (f2 : q2 ≡ get_or ks 2 q2) where
    if_is : term_at ns p ≡ If t (term_at ns q0) (term_at ns q1) (term_at ns q2)
    if_is =
        let i = if_kids in
        i.term ∙ ap (λ q. If t (term_at ns q) (term_at ns (get_or ks 1 0)) (term_at ns (get_or ks 2 0)))
        (sym (place_of 0 q0 f0 (omega arith)))
        ∙ ap (λ q. If t (term_at ns q0) (term_at ns q) (term_at ns (get_or ks 2 0)))
        (sym (place_of 1 q1 f1 (omega arith)))
        ∙ ap (λ q. If t (term_at ns q0) (term_at ns q1) (term_at ns q)) (sym (place_of 2 q2 f2 (omega arith)))

    if_kept : kept (term_at ns p) ≡ suc (kept (term_at ns q0) + kept (term_at ns q1) + kept (term_at ns q2))
    if_kept = ap kept if_is

    pub first_there : {us : List LocalBound} → length us ≡ length ys
        → (p < q0) × (q0 < length ns) × CanWiden ns q0 (k + 1) xs us
    first_there {us} l =
        let e = if_kept in
        let r = stands_there 0 q0 f0 (omega arith) in (
          r.0,
          r.1,
          record {
            stands = r.2;
            within = fewer (k + 1 + kept (term_at ns q0)) (k + kept (term_at ns p)) xs ys us (omega (arith, e)) l
                can.within;
          },
        )

    pub second_there : {n1 : ℕ} → n1 ≡ k + 1 + kept (term_at ns q0) → {us : List LocalBound} → length us ≡ length ys
        → (p < q1) × (q1 < length ns) × CanWiden ns q1 n1 xs us
    second_there {n1} e1 {us} l =
        let e = if_kept in
        let r = stands_there 1 q1 f1 (omega arith) in (
          r.0,
          r.1,
          record {
            stands = r.2;
            within = fewer (n1 + kept (term_at ns q1)) (k + kept (term_at ns p)) xs ys us (omega (arith, e, e1)) l
                can.within;
          },
        )

    pub third_there : {n1 : ℕ} → n1 ≡ k + 1 + kept (term_at ns q0) → {n2 : ℕ} → n2 ≡ n1 + kept (term_at ns q1)
        → {us : List LocalBound} → length us ≡ length ys → (p < q2) × (q2 < length ns) × CanWiden ns q2 n2 xs us
    third_there {n1} e1 {n2} e2 {us} l =
        let e = if_kept in
        let r = stands_there 2 q2 f2 (omega arith) in (
          r.0,
          r.1,
          record {
            stands = r.2;
            within = fewer (n2 + kept (term_at ns q2)) (k + kept (term_at ns p)) xs ys us (omega (arith, e, e1, e2)) l
                can.within;
          },
        )

    pub if_done : {w wa wb : Side} {vs os u0 u1 u2 u3 : List BoundValue} {n1 n2 n3 : ℕ} → SlotWidened w k vs os u0
        → Widened w (term_at ns q0) (k + 1) vs u0 u1 n1
        → wa ≡ side_in w true (slot_bound k vs) (slot_bound k os) → Widened wa (term_at ns q1) n1 vs u1 u2 n2
        → wb ≡ side_in w false (slot_bound k vs) (slot_bound k os) → Widened wb (term_at ns q2) n2 vs u2 u3 n3
        → Widened w (term_at ns p) k vs os u3 n3
    if_done {w} {wa} {wb} {vs} {os} {u0} {u1} {u2} {u3} {n1} {n2} {n3} o d1 ea d2 eb d3 =
        subst (λ u. Widened w u k vs os u3 n3) (sym if_is)
        (if_widened w t (term_at ns q0) (term_at ns q1) (term_at ns q2) k vs os u0 u1 u2 u3 (k + 1) n1 n2 n3 wa wb o
        (omega arith) d1 ea d2 eb d3)

-- ---- kids one after another

-- what is left of them, and that they then are done with it
pub record KidsSoFar (w : Side) (ns : List Node) (p : ℕ) (all ks : List ℕ) (k j : ℕ) (xs ys zs : List LocalBound)
    : Type 0 where
  pub can : CanWidenAll ns p ks j xs zs
  pub left : (us : List BoundValue) (n : ℕ)
      → AllWidened w (terms_by (term_at ns) ks) j (local_bounds_in xs) (local_bounds_in zs) us n
      → AllWidened w (terms_by (term_at ns) all) k (local_bounds_in xs) (local_bounds_in ys) us n

module _ {w : Side} {ns : List Node} {p : ℕ} where
  pub kids_first : {ks : List ℕ} {k : ℕ} {xs ys : List LocalBound} → CanWidenAll ns p ks k xs ys
      → KidsSoFar w ns p ks ks k k xs ys ys
  kids_first c = record { can = c; left = λ us n d. d }

  one_kid : (all : List ℕ) (q : ℕ) (ks : List ℕ) (k j : ℕ) (xs ys zs us : List LocalBound) (n : ℕ)
      → KidsSoFar w ns p all (q ∷ ks) k j xs ys zs → length us ≡ length zs
      → Widened w (term_at ns q) j (local_bounds_in xs) (local_bounds_in zs) (local_bounds_in us) n
      → KidsSoFar w ns p all ks k n xs ys us
  one_kid all q ks k j xs ys zs us n h l d =
      let e = d.end in
      record {
        can = record {
          stand = h.can.stand.2;
          within = fewer (n + kept_all (terms_by (term_at ns) ks))
              (j + (kept (term_at ns q) + kept_all (terms_by (term_at ns) ks))) xs zs us (omega (arith, e)) l
              h.can.within;
        };
        left = λ vs m r. h.left vs m (more_widened w (term_at ns q) (terms_by (term_at ns) ks) j (local_bounds_in xs)
            (local_bounds_in zs) (local_bounds_in us) vs n m d r);
      }

  module _ {all : List ℕ} {i k j : ℕ} {xs ys zs : List LocalBound} (h : KidsSoFar w ns p all (drop i all) k j xs ys zs)
    where
      next_kid : i < length all → KidsSoFar w ns p all (get_or all i 0 ∷ drop (suc i) all) k j xs ys zs
      next_kid b = subst (λ (js : List ℕ). KidsSoFar w ns p all js k j xs ys zs) (drop-cons all i 0 b) h

      pub kid_done : i < length all → {us : List LocalBound} → length us ≡ length zs → {n : ℕ}
          → Widened w (term_at ns (get_or all i 0)) j (local_bounds_in xs) (local_bounds_in zs) (local_bounds_in us) n
          → KidsSoFar w ns p all (drop (i + 1) all) k n xs ys us
      kid_done b {us} l {n} d =
          let e : suc i ≡ i + 1 = omega arith in
          subst (λ (c : ℕ). KidsSoFar w ns p all (drop c all) k n xs ys us) e
          (one_kid all (get_or all i 0) (drop (suc i) all) k j xs ys zs us n (next_kid b) l d)

      pub kids_done : length all ≤ i → AllWidened w (terms_by (term_at ns) all) k (local_bounds_in xs)
          (local_bounds_in ys) (local_bounds_in zs) j
      kids_done b =
          let r = subst (λ (js : List ℕ). KidsSoFar w ns p all js k j xs ys zs) (drop_all i all b) h in
          r.left (local_bounds_in zs) j (none_widened w j (local_bounds_in xs) (local_bounds_in zs))
