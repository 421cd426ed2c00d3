-- The steps of the walk that gathers ranges.
use Rattle.std.proofs.Common.{◌≡◌, ℕ, zero, suc, ◌<◌, ◌≤◌, ◌+◌, List, [], ◌∷◌, ◌++◌, length, get_or, refl, sym, ◌∙◌, ap, subst, arith, Bool, true, false, Option, Some, None, nat_eq, nat_lt}
use Rattle.std.specs.Prelude.{slice_set}
use Rattle.std.proofs.lemmas.Bool.Decides.{nat_tests}
use Rattle.std.proofs.lemmas.List.{length-append, length-set, length-map, map-append, get_or_append_left, get_or-set_same, get_or-set_other, ext_get_or}
use Rattle.fc_values.specs.Types.{ValueType}
use Rattle.fc_values.specs.BuiltinTypes.{inner}
use Rattle.fc_nodes.specs.Terms.{Leaf, Literal, Variable, Sense, Uid, NbrLink, Terms, NoMore, More, size, sizes, Sort, OfLeaf, OfApply, OfNbr, OfEvolve, OfIf, OfLet, View, Has, view_at, HasNode, places, term_at}
use Rattle.fc_nodes.specs.Program.{Program, unfolding_of, IsProgram}
use Rattle.fc_nodes.proofs.Places.{formed_above}
use Rattle.fc_nodes.proofs.Kids.{kids_of, size_kids, KidsAre, kids_are, kids_stand, size_some}
use Rattle.interval_facts.specs.Ranges.{RangeValue, BoolRange, range_value, ranges_of, range_of, hull, builtin_range, full, AreRangesOf}
use Rattle.interval_facts.specs.declared.intervals.Range.{Range}
use Rattle.interval_facts.specs.Picks.{AreThere, ranges_at, ranges_in}
use Rattle.interval_facts.specs.Steps.{range_in, variable_range, step_range, kids_taken, LeafIsBound, IsBound}
use Rattle.interval_facts.specs.Gathering.{end_of, Extends, IsNext, AreNext, LeafIsThere, IsThere}
use Rattle.interval_facts.proofs.Tables.{as_many}
use Rattle.interval_facts.proofs.Stepped.{StepsAt, program_steps}

-- places from one on to another
abbrev Between : ℕ → ℕ → List ℕ → Type 0
Between p e [] = Unit {0}
Between p e (k ∷ ks) = (p ≤ k) × (k < e) × Between p e ks

between_wider : (p q d e : ℕ) (ks : List ℕ) → p ≤ q → d ≤ e → Between q d ks → Between p e ks
between_wider p q d e [] l m h = tt
between_wider p q d e (k ∷ ks) l m h = (let a = h.0 in omega (arith, l, a), let b = h.1 in omega (arith, m, b), between_wider p q d e ks l m h.2)

places_between : (xs : Terms) (p : ℕ) → Between p (p + sizes xs) (places p xs)
places_between NoMore p = tt
places_between (More x xs) p =
    let some = size_some x in
    (omega arith, omega (arith, some), between_wider p (p + size x) (p + size x + sizes xs) (p + (size x + sizes xs)) (places (p + size x) xs) (omega arith) (omega arith) (places_between xs (p + size x)))

between_there : (p e : ℕ) (ks : List ℕ) → Between p e ks → AreThere e ks
between_there p e [] h = tt
between_there p e (k ∷ ks) h = (h.1, between_there p e ks h.2)

same_ranges : (p e : ℕ) (ks : List ℕ) (L rs : List RangeValue) → ((m : ℕ) → p ≤ m → m < e → range_in L m ≡ range_in rs m) → Between p e ks → ranges_at L ks ≡ ranges_at rs ks
same_ranges p e [] L rs same h = refl
same_ranges p e (k ∷ ks) L rs same h = let a = same k h.0 h.1 in let b = same_ranges p e ks L rs same h.2 in cc

same_nth : (p e : ℕ) (ks : List ℕ) (i : ℕ) (L rs : List RangeValue) → ((m : ℕ) → p ≤ m → m < e → range_in L m ≡ range_in rs m) → Between p e ks → i < length ks →
    range_in L (get_or ks i 0) ≡ range_in rs (get_or ks i 0)
same_nth p e [] i L rs same h l = absurd (omega (arith, l))
same_nth p e (k ∷ ks) zero L rs same h l = same k h.0 h.1
same_nth p e (k ∷ ks) (suc i) L rs same h l = same_nth p e ks i L rs same h.2 (omega (arith, l))

pub pushed : (xs ys : List Range) (r : Range) → ys ≡ xs ++ r ∷ [] → ranges_in ys ≡ ranges_in xs ++ range_value r ∷ []
pushed xs ys r e = ap ranges_in e ∙ map-append range_value xs (r ∷ [])

-- as many ranges in a slice of a list
pub as_long : (xs ys : List Range) → ys ≡ xs → length (ranges_in xs) ≡ length ys
as_long xs ys e = length-map xs range_value ∙ sym (ap length e)

module _ (P : Program) where
  -- the kids that are left, and the ranges so far
  pub record KidsSoFar (p : ℕ) (ks : List ℕ) (L0 L : List RangeValue) : Type 0 where
    pub next : AreNext P p ks L
    pub longer : length L0 ≤ length L
    pub so_far : Extends P L0 L (length L)

  -- ---- a node

  module _ (program : IsProgram P) (p : ℕ) (s : Sort) (t : ValueType) (ks : List ℕ) (node : HasNode P.nodes p s t ks) (L : List RangeValue) (next : IsNext P p L) where
    kids : KidsAre P.nodes p (term_at P.nodes p) ks
    kids = kids_are P.nodes (formed_above P.nodes program.formed) p s t ks node next.stands.laid

    steps : StepsAt P (ranges_of (unfolding_of P)) p s t ks
    steps = program_steps P program p next.stands.within s t ks node

    kids_between : Between (suc p) (end_of P p) ks
    kids_between =
        let k = kids in
        let long = size_kids (term_at P.nodes p) in
        subst (Between (suc p) (end_of P p)) (sym k.stand_at)
        (between_wider (suc p) (suc p) (suc p + sizes (kids_of (term_at P.nodes p))) (end_of P p) (places (suc p) (kids_of (term_at P.nodes p))) (omega arith) (omega (arith, long)) (places_between (kids_of (term_at P.nodes p)) (suc p)))

    module _ (x : RangeValue) (L1 : List RangeValue) (push : L1 ≡ L ++ x ∷ []) where
      pushed_long : length L1 ≡ suc p
      pushed_long = let e = next.long in let f = length-append L (x ∷ []) in ap length push ∙ f ∙ omega (arith, e)

      pushed_same : (m : ℕ) → m < length L → range_in L1 m ≡ range_in L m
      pushed_same m l = ap (λ rs. range_in rs m) push ∙ get_or_append_left L (x ∷ []) BoolRange m l

      pub begun : AreNext P p ks L1
      begun =
          let k = kids in
          let long = size_kids (term_at P.nodes p) in
          let terms = ap sizes k.kids in
          let n = pushed_long in
          record {
            stand = kids_stand P.nodes (formed_above P.nodes program.formed) p next.stands s t ks node;
            run = k.stand_at ∙ ap (λ q. places q (kids_of (term_at P.nodes p))) (sym n) ∙ ap (places (length L1)) k.kids;
            ends = omega (arith, long, terms, n);
            known = λ m i b. known_there m i b (nat_lt m p) refl;
          }
        where
          known_there : (m : ℕ) → m < length L1 → end_of P m < end_of P p → (c : Bool) → nat_lt m p ≡ c → range_in L1 m ≡ range_of (unfolding_of P) m
          known_there m i b true e = let e' = next.long in let before : m < length L = grind (arith, nat_tests) in pushed_same m before ∙ next.known m before b
          known_there m i b false e = let n = pushed_long in let same : m ≡ p = grind (arith, nat_tests) in absurd (let b' : end_of P p < end_of P p = subst (λ q. end_of P q < end_of P p) same b in omega (arith, b'))

      module _ (L2 : List RangeValue) (all : Extends P L1 L2 (end_of P p)) where
        pub own_kids : AreThere (length L2) ks
        own_kids = subst (λ n. AreThere n ks) (sym all.long) (between_there (suc p) (end_of P p) ks kids_between)

        pub own_place : p < length L2
        own_place = let long = all.long in let some = size_some (term_at P.nodes p) in omega (arith, long, some)

        pub own_taken : length ks ≡ kids_taken s
        own_taken = let i = steps in i.long

        -- what a variable rests on
        leaf_bound : (l : Leaf) → LeafIsBound P.nodes p l → LeafIsThere P (length L2) l
        leaf_bound (Literal v) h = tt
        leaf_bound (Variable n) h =
            let long = all.long in
            let some = size_some (term_at P.nodes (suc n)) in
            let own = size_some (term_at P.nodes p) in
            let within = next.stands.within in
            (omega (arith, h, long, some, own), omega (arith, h, within))
        leaf_bound (Sense i) h = tt
        leaf_bound Uid h = tt
        leaf_bound NbrLink h = tt

        sort_bound : (s : Sort) → IsBound P.nodes p s → IsThere P (length L2) s
        sort_bound (OfLeaf l) h = leaf_bound l h
        sort_bound (OfApply o) h = tt
        sort_bound OfNbr h = tt
        sort_bound (OfEvolve e) h = tt
        sort_bound OfIf h = tt
        sort_bound OfLet h = tt

        pub own_bound : IsThere P (length L2) s
        own_bound = let i = steps in sort_bound s i.bound

        -- the step is the same from the ranges so far as from all
        behind_same : (m : ℕ) → suc p ≤ m → m < end_of P p → range_in L2 m ≡ range_of (unfolding_of P) m
        behind_same m i j = let n = pushed_long in all.more m (omega (arith, n, i)) j

        bound_same : (n : ℕ) → LeafIsBound P.nodes p (Variable n) → range_in L2 (suc n) ≡ range_of (unfolding_of P) (suc n)
        bound_same n h =
            let some = size_some (term_at P.nodes (suc n)) in
            let own = size_some (term_at P.nodes p) in
            let long = next.long in
            let long1 = pushed_long in
            all.same (suc n) (omega (arith, h, some, long1)) ∙ pushed_same (suc n) (omega (arith, h, some, long)) ∙ next.known (suc n) (omega (arith, h, some, long)) (omega (arith, h, own))

        variable_same : (n : ℕ) (o : Option View) → range_in L2 (suc n) ≡ range_of (unfolding_of P) (suc n) →
            variable_range P.declared L2 n o ≡ variable_range P.declared (ranges_of (unfolding_of P)) n o
        variable_same n None e = refl
        variable_same n (Some (Has (OfLeaf l) t ks)) e = refl
        variable_same n (Some (Has (OfApply o) t ks)) e = refl
        variable_same n (Some (Has OfNbr t ks)) e = refl
        variable_same n (Some (Has (OfEvolve v) t ks)) e = refl
        variable_same n (Some (Has OfIf t ks)) e = refl
        variable_same n (Some (Has OfLet t ks)) e = e

        kid_same : (i : ℕ) → i < length ks → range_in L2 (get_or ks i 0) ≡ range_of (unfolding_of P) (get_or ks i 0)
        kid_same i l = same_nth (suc p) (end_of P p) ks i L2 (ranges_of (unfolding_of P)) behind_same kids_between l

        step_same : (s : Sort) → IsBound P.nodes p s → length ks ≡ kids_taken s → step_range P L2 (Has s t ks) ≡ step_range P (ranges_of (unfolding_of P)) (Has s t ks)
        step_same (OfLeaf (Literal v)) b n = refl
        step_same (OfLeaf (Variable q)) b n = variable_same q (view_at P.nodes q) (bound_same q b)
        step_same (OfLeaf (Sense i)) b n = refl
        step_same (OfLeaf Uid) b n = refl
        step_same (OfLeaf NbrLink) b n = refl
        step_same (OfApply o) b n = ap (builtin_range P.declared.ceiling (full P.declared.ceiling (inner t)) o) (same_ranges (suc p) (end_of P p) ks L2 (ranges_of (unfolding_of P)) behind_same kids_between)
        step_same OfNbr b n = kid_same 0 (omega (arith, n))
        step_same (OfEvolve v) b n = kid_same 1 (omega (arith, n))
        step_same OfIf b n =
            ap (λ r. hull r (range_in L2 (get_or ks 2 0))) (kid_same 1 (omega (arith, n)))
            ∙ ap (hull (range_of (unfolding_of P) (get_or ks 1 0))) (kid_same 2 (omega (arith, n)))
        step_same OfLet b n = kid_same 1 (omega (arith, n))

        module _ (r : RangeValue) (own : r ≡ step_range P L2 (Has s t ks)) where
          own_is : r ≡ range_of (unfolding_of P) p
          own_is = let i = steps in own ∙ step_same s i.bound i.long ∙ sym i.here

          pub ended : (L3 : List RangeValue) → L3 ≡ slice_set L2 p r → Extends P L L3 (end_of P p)
          ended L3 e = subst (λ rs. Extends P L rs (end_of P p)) (sym e) (record {
            long = length-set L2 p r ∙ all.long;
            same = λ m l. let n = next.long in get_or-set_other L2 p m r BoolRange (λ q. let q' : m ≡ p = q in omega (arith, l, n, q')) ∙ all.same m (let k = pushed_long in omega (arith, k, l, n)) ∙ pushed_same m l;
            more = λ m i j. at m i j (nat_eq m p) refl;
          })
            where
              at : (m : ℕ) → length L ≤ m → m < end_of P p → (c : Bool) → nat_eq m p ≡ c → range_in (slice_set L2 p r) m ≡ range_of (unfolding_of P) m
              at m i j true t =
                  let q : m ≡ p = grind (arith, nat_tests) in
                  let long = all.long in
                  subst (λ n. range_in (slice_set L2 p r) n ≡ range_of (unfolding_of P) n) (sym q) (get_or-set_same L2 p r BoolRange (omega (arith, long, j, q)) ∙ own_is)
              at m i j false t =
                  let q : m ≡ p → ⊥ = λ e. let b : nat_eq m p ≡ true = grind (arith, nat_tests) in absurd cc in
                  let n = next.long in
                  get_or-set_other L2 p m r BoolRange q ∙ behind_same m (let q' : suc p ≤ m = grind (arith, nat_tests) in q') j

-- ---- the whole program

module _ (P : Program) (program : IsProgram P) where
  pub all_gathered : (L : List RangeValue) → Extends P [] L (end_of P 0) → AreRangesOf (unfolding_of P) L
  all_gathered L h =
      let long = h.long in
      let many = as_many P.declared (term_at P.nodes 0) [] 0 in
      ext_get_or BoolRange L (ranges_of (unfolding_of P)) (omega (arith, long, many)) (λ m i. h.more m (omega arith) (omega (arith, i, long)))
