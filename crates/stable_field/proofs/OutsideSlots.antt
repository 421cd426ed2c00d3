-- Slots outside first values: those of a term from those of its kids, and loops that compare them.
use Rattle.std.proofs.Common.{◌≡◌, ℕ, suc, ◌<◌, ◌+◌, List, [], ◌∷◌, ◌++◌, length, get_or, drop, refl, sym, ◌∙◌, ap, subst, arith, Bool, true, false, nat_eq, Option, Some, None}
use Rattle.std.specs.Prelude.{is_some, option_and_then, option_map}
use Rattle.std.proofs.lemmas.Bool.{eqb-true}
use Rattle.std.proofs.lemmas.Bool.Decides.{nat_tests}
use Rattle.fc_values.specs.declared.exports.Export.{Export}
use Rattle.fc_values.specs.Types.{LocalType, ValueType}
use Rattle.fc_values.specs.Exports.{SlotValue, slot_at}
use Rattle.fc_nodes.specs.declared.nodes.Node.{Node}
use Rattle.fc_nodes.specs.Terms.{Term, Terms, Plain, Apply, Nbr, Evolve, If, Let, NoMore, More, size, kept, kept_type, kept_before, places, one_if, Evolution, Sort, OfLeaf, OfApply, OfNbr, OfEvolve, OfIf, OfLet, term_at, view_keeps, HasNode, AllLaid}
use Rattle.fc_nodes.specs.Places.{StandsAt, StandAfter}
use Rattle.fc_nodes.specs.Layouts.{keeps_at}
use Rattle.fc_nodes.proofs.Places.{AllAbove}
use Rattle.fc_nodes.proofs.Kids.{kids_of, kids_are, own_type, own_is, laid_term, evolve_laid, TwoKids}
use Rattle.fc_nodes.proofs.Kept.{kept_step, kept_size}
use Rattle.stable_field.specs.Outside.{outside_of, SameOwn, SameOutside, AllSameOutside, SameAt, EachOutside, SameExport, SameExports}

pub split_last : (is : List ℕ) (i : ℕ) (xs ys : List SlotValue) → SameAt (is ++ i ∷ []) xs ys → SameAt is xs ys × (slot_at i xs ≡ slot_at i ys)
split_last [] i xs ys h = (tt, h.0)
split_last (q ∷ is) i xs ys h = let r = split_last is i xs ys h.1 in ((h.0, r.0), r.1)

abbrev after : Option LocalType → ℕ → ℕ
after o k = k + one_if (is_some o)

module _ (xs ys : List SlotValue) where
  -- all kids are the same: more than is asked where one of them is a first value
  whole_same : (u : Term) (k : ℕ) → SameOwn (own_type u) k xs ys → AllSameOutside (kids_of u) (after (own_type u) k) xs ys → SameOutside u k xs ys
  whole_same (Plain t l) k o h = tt
  whole_same (Apply t op ts) k o h = let e : k + 0 ≡ k = omega arith in subst (λ q. AllSameOutside ts q xs ys) e h
  whole_same (Nbr t a) k o h = let e : k + 1 ≡ suc k = omega arith in (o, (subst (λ q. AllSameOutside (More a NoMore) q xs ys) e h).0)
  whole_same (Evolve t v a b) k o h =
      let e : k + 1 ≡ suc k = omega arith in (o, (subst (λ q. AllSameOutside (More a (More b NoMore)) q xs ys) e h).1.0)
  whole_same (If t c a b) k o h =
      let e : k + 1 ≡ suc k = omega arith in
      let r = subst (λ q. AllSameOutside (More c (More a (More b NoMore))) q xs ys) e h in (o, r.0, r.1.0, r.1.1.0)
  whole_same (Let t a b) k o h =
      let e : k + 0 ≡ k = omega arith in
      let r = subst (λ q. AllSameOutside (More a (More b NoMore)) q xs ys) e h in (r.0, r.1.0)

  module _ (ns : List Node) (ab : AllAbove ns) where
    each_all : (ts : Terms) (q : ℕ) → AllLaid ns q ts → EachOutside ns (places q ts) xs ys → AllSameOutside ts (kept_before ns q) xs ys
    each_all NoMore q l e = tt
    each_all (More x ts) q l e = (
      subst (λ u. SameOutside u (kept_before ns q) xs ys) (laid_term ns ab x q l.0) e.0,
      subst (λ k. AllSameOutside ts k xs ys) (kept_size ns x q (q + size x) l.0 refl) (each_all ts (q + size x) l.1 e.1),
    )

    module _ (p : ℕ) (st : StandsAt ns p) (s : Sort) (t : ValueType) (ks : List ℕ) (h : HasNode ns p s t ks) where
      own_same : SameOwn (kept_type s t) (kept_before ns p) xs ys → SameOwn (own_type (term_at ns p)) (kept_before ns p) xs ys
      own_same o = subst (λ w. SameOwn w (kept_before ns p) xs ys) (own_is ns s t ks (term_at ns p) p h st.laid) o

      -- a node whose kids are the same
      node_same : SameOwn (kept_type s t) (kept_before ns p) xs ys → EachOutside ns ks xs ys → SameOutside (term_at ns p) (kept_before ns p) xs ys
      node_same o e =
          let i = kids_are ns ab p s t ks h st.laid in
          let all = each_all (kids_of (term_at ns p)) (suc p) i.laid (subst (λ qs. EachOutside ns qs xs ys) i.stand_at e) in
          let step = kept_step ns p s t ks h ∙ ap (λ w. kept_before ns p + one_if (is_some w)) (own_is ns s t ks (term_at ns p) p h st.laid) in
          whole_same (term_at ns p) (kept_before ns p) (own_same o) (subst (λ k. AllSameOutside (kids_of (term_at ns p)) k xs ys) step all)

      -- a `rep` or `share` whose kids but the first are the same
      body_same : (v : Evolution) → s ≡ OfEvolve v → SameOwn (kept_type s t) (kept_before ns p) xs ys → EachOutside ns (drop 1 ks) xs ys → SameOutside (term_at ns p) (kept_before ns p) xs ys
      body_same v z o e = by_kids ks (evolve_laid ns ab p v t ks (subst (λ q. HasNode ns p q t ks) z h) st.laid) e
        where
          own : SameOwn (kept_type (OfEvolve v) t) (kept_before ns p) xs ys
          own = subst (λ q. SameOwn (kept_type q t) (kept_before ns p) xs ys) z o

          step : kept_before ns (suc p) ≡ kept_before ns p + 1
          step = kept_step ns p (OfEvolve v) t ks (subst (λ q. HasNode ns p q t ks) z h)

          by_kids : (qs : List ℕ) → TwoKids ns p (Evolve t v) qs → EachOutside ns (drop 1 qs) xs ys → SameOutside (term_at ns p) (kept_before ns p) xs ys
          by_kids [] th e = let l = th.long in absurd (omega (arith, l))
          by_kids (a ∷ []) th e = let l = th.long in absurd (omega (arith, l))
          by_kids (a ∷ b ∷ c ∷ qs) th e = let l = th.long in absurd (omega (arith, l))
          by_kids (a ∷ b ∷ []) th e =
              let first : a ≡ suc p = th.first_is in
              let second : b ≡ suc p + size (term_at ns a) = th.second_is in
              let behind = kept_size ns (term_at ns a) a b th.first (omega (arith, first, second)) in
              let here = ap (kept_before ns) first in
              let st' = step in
              let k : kept_before ns b ≡ suc (kept_before ns p) + kept (term_at ns a) = omega (arith, behind, here, st') in
              subst (λ u. SameOutside u (kept_before ns p) xs ys) (sym th.term) (own, subst (λ q. SameOutside (term_at ns b) q xs ys) k e.0)

      -- a term, from what its node keeps and from its kids outside first values
      pub term_same : SameOwn (keeps_at ns p) (kept_before ns p) xs ys → EachOutside ns (outside_of s ks) xs ys → SameOutside (term_at ns p) (kept_before ns p) xs ys
      term_same o e = by_sort s refl (subst (λ w. SameOwn w (kept_before ns p) xs ys) (ap (option_and_then view_keeps) h) o) e
        where
          back : {q : Sort} → s ≡ q → SameOwn (kept_type q t) (kept_before ns p) xs ys → SameOwn (kept_type s t) (kept_before ns p) xs ys
          back z o = subst (λ q. SameOwn (kept_type q t) (kept_before ns p) xs ys) (sym z) o

          by_sort : (q : Sort) → s ≡ q → SameOwn (kept_type q t) (kept_before ns p) xs ys → EachOutside ns (outside_of q ks) xs ys → SameOutside (term_at ns p) (kept_before ns p) xs ys
          by_sort (OfLeaf l) z o e = node_same (back z o) e
          by_sort (OfApply op) z o e = node_same (back z o) e
          by_sort OfNbr z o e = node_same (back z o) e
          by_sort (OfEvolve v) z o e = body_same v z (back z o) e
          by_sort OfIf z o e = node_same (back z o) e
          by_sort OfLet z o e = node_same (back z o) e

pub outside_stand : (ns : List Node) (p : ℕ) (s : Sort) (ks : List ℕ) → StandAfter ns p ks → StandAfter ns p (outside_of s ks)
outside_stand ns p (OfLeaf l) ks h = h
outside_stand ns p (OfApply o) ks h = h
outside_stand ns p OfNbr ks h = h
outside_stand ns p (OfEvolve v) [] h = tt
outside_stand ns p (OfEvolve v) (k ∷ ks) h = h.2
outside_stand ns p OfIf ks h = h
outside_stand ns p OfLet ks h = h

-- ---- loops

pub below_more : (P : ℕ → Type 0) (n : ℕ) → ((i : ℕ) → i < n → P i) → P n → (i : ℕ) → i < suc n → P i
below_more P n f p i h = by_test (nat_eq i n) refl
  where
    by_test : (b : Bool) → nat_eq i n ≡ b → P i
    by_test true e = subst P (sym (eqb-true i n e)) p
    by_test false e = f i (grind (arith, e, h, nat_tests))

pub all_exports : (is : List ℕ) (xs ys : List (Option Export)) → length xs ≡ length ys → ((i : ℕ) → i < length xs → SameExport is (get_or xs i None) (get_or ys i None)) → SameExports is xs ys
all_exports is [] [] e f = tt
all_exports is [] (y ∷ ys) e f = absurd (omega (arith, e))
all_exports is (x ∷ xs) [] e f = absurd (omega (arith, e))
all_exports is (x ∷ xs) (y ∷ ys) e f = (f 0 (omega arith), all_exports is xs ys (omega (arith, e)) (λ i h. f (suc i) (omega (arith, h))))

pub all_slots : (is : List ℕ) (xs ys : List SlotValue) → ((i : ℕ) → i < length is → slot_at (get_or is i 0) xs ≡ slot_at (get_or is i 0) ys) → SameAt is xs ys
all_slots [] xs ys f = tt
all_slots (q ∷ is) xs ys f = (f 0 (omega arith), all_slots is xs ys (λ i h. f (suc i) (omega (arith, h))))

-- ---- the slot of a node

pub own_slot : (ns : List Node) (p k : ℕ) (o : Option LocalType) (xs ys : List SlotValue) → Some k ≡ option_map (λ (t : LocalType). kept_before ns p) o → slot_at k xs ≡ slot_at k ys → SameOwn o (kept_before ns p) xs ys
own_slot ns p k None xs ys e h = absurd cc
own_slot ns p k (Some t) xs ys e h = let f : k ≡ kept_before ns p = cc in subst (λ q. slot_at q xs ≡ slot_at q ys) f h
