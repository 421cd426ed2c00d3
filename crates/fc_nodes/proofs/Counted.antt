-- Where variables stand, and where terms end.
use Rattle.std.proofs.Common.{◌≡◌, ℕ, zero, suc, ◌<◌, ◌≤◌, ◌+◌, ◌-◌, ◌⊎◌, inl, inr, List, [], ◌∷◌, ◌++◌, length, get_or, refl, sym, ◌∙◌, ap, subst, arith, Bool, true, false, cond, ◌||◌, nat_eq, nat_lt, Some, None}
use Rattle.std.specs.Prelude.{replicate, slice_get, slice_set, Vec}
use Rattle.std.specs.declared.alloc.Global.{Global}
use Rattle.std.specs.List.{prefix_len}
use Rattle.std.specs.List.Sorted.{IsPartitionedBy}
use Rattle.std.proofs.lemmas.Bool.{eqb-true, eqb-false, ltb-true, lt-ltb}
use Rattle.std.proofs.lemmas.Bool.Decides.{nat_tests}
use Rattle.std.proofs.lemmas.List.{append-nil, length_push, length-map}
use Rattle.fc_values.specs.Fields.{Rises}
use Rattle.fc_values.proofs.Rising.{rises_at}
use Rattle.fc_values.proofs.Lists.{get_any}
use Rattle.fc_nodes.specs.declared.nodes.Node.{Node}
use Rattle.fc_nodes.specs.Terms.{Term, Terms, Plain, Apply, Nbr, Evolve, If, Let, NoMore, More, size, sizes, Sort, OfLeaf, OfApply, OfNbr, OfEvolve, OfIf, OfLet, Literal, Variable, Sense, Uid, NbrLink, term_at, HasNode, Laid, AllLaid, places, WellFormed}
use Rattle.fc_nodes.specs.Program.{Program, IsProgram}
use Rattle.fc_nodes.specs.Places.{StandsAt}
use Rattle.fc_nodes.specs.Variables.{is_variable, occurs, occurs_in}
use Rattle.fc_nodes.specs.Sorts.{is_own_sort}
use Rattle.fc_values.specs.Types.{ValueType}
use Rattle.fc_nodes.specs.Occurrences.{lists_of, is_own_view, is_use, place_if, uses_before, AreUses, AreUsesBefore, noted, noted_sort}
use Rattle.fc_nodes.proofs.Places.{AllAbove, in_range, formed_above, laid_within}
use Rattle.fc_nodes.proofs.Standing.{below_or, each_stands}
use Rattle.fc_nodes.proofs.Kids.{laid_term, kids_of, size_kids, kids_are}
use Rattle.fc_nodes.proofs.Fresh.{not_behind}

-- ---- rising places

abbrev Below : ℕ → List ℕ → Type 0
Below k [] = Unit {0}
Below k (n ∷ ns) = (n < k) × Below k ns

below_more : (k m : ℕ) (xs : List ℕ) → k ≤ m → Below k xs → Below m xs
below_more k m [] l b = tt
below_more k m (x ∷ xs) l b = (omega (arith, l, b.0), below_more k m xs l b.1)

below_behind : (k m : ℕ) (xs : List ℕ) → k < m → Below k xs → Below m (xs ++ k ∷ [])
below_behind k m [] l b = (l, tt)
below_behind k m (x ∷ xs) l b = (omega (arith, l, b.0), below_behind k m xs l b.1)

rises_behind : (k : ℕ) (xs : List ℕ) → Rises xs → Below k xs → Rises (xs ++ k ∷ [])
rises_behind k [] r b = tt
rises_behind k (x ∷ []) r b = (b.0, tt)
rises_behind k (x ∷ y ∷ xs) r b = (r.0, rises_behind k (y ∷ xs) r.1 b.1)

-- a search by halves may ask which places come before another
pub before_parted : (t : ℕ) (xs : List ℕ) → Rises xs → IsPartitionedBy (λ n. nat_lt n t) xs
before_parted t xs r i j d h l q = by_test (nat_eq i j) refl
  where
    by_test : (b : Bool) → nat_eq i j ≡ b → nat_lt (get_or xs i d) t ≡ true
    by_test true e = let k = eqb-true i j e in subst (λ m. nat_lt (get_or xs m d) t ≡ true) (sym k) q
    by_test false e =
        let k = eqb-false i j e in
        let u = rises_at xs r i j (omega (arith, k)) (omega arith) in
        let v = ltb-true (get_or xs j d) t q in
        lt-ltb (get_or xs i d) t (omega (arith, get_any xs i d 0 (omega arith), get_any xs j d 0 l))

prefix_all : (t : ℕ) (xs : List ℕ) → Below t xs → prefix_len (λ n. nat_lt n t) xs ≡ length xs
prefix_all t [] b = refl
prefix_all t (x ∷ xs) b = let ih = prefix_all t xs b.1 in rw (lt-ltb x t b.0) (omega (arith, ih))

prefix_stops : (t k : ℕ) (xs : List ℕ) → nat_lt k t ≡ false → prefix_len (λ n. nat_lt n t) (xs ++ k ∷ []) ≡ prefix_len (λ n. nat_lt n t) xs
prefix_stops t k [] e = rw e refl
prefix_stops t k (x ∷ xs) e = by_test (nat_lt x t) (prefix_stops t k xs e)
  where
    by_test : (b : Bool) → prefix_len (λ n. nat_lt n t) (xs ++ k ∷ []) ≡ prefix_len (λ n. nat_lt n t) xs
        → cond b (1 + prefix_len (λ n. nat_lt n t) (xs ++ k ∷ [])) 0 ≡ cond b (1 + prefix_len (λ n. nat_lt n t) xs) 0
    by_test true ih = ap (λ n. 1 + n) ih
    by_test false ih = refl

-- ---- the uses of a binder

module _ (ns : List Node) (x : ℕ) where
  none_yet : uses_before ns x 0 ≡ []
  unfolding uses_before
  none_yet = refl

  pub one_further : (k : ℕ) → uses_before ns x (suc k) ≡ uses_before ns x k ++ place_if (is_use ns x k) k
  unfolding uses_before
  one_further k = refl

  uses_below : (k : ℕ) → Below k (uses_before ns x k)
  unfolding uses_before
  uses_below zero = tt
  uses_below (suc k) = by_test (is_use ns x k) (uses_below k)
    where
      by_test : (b : Bool) → Below k (uses_before ns x k) → Below (suc k) (uses_before ns x k ++ place_if b k)
      by_test true h = below_behind k (suc k) (uses_before ns x k) (omega arith) h
      by_test false h = subst (Below (suc k)) (sym (append-nil (uses_before ns x k))) (below_more k (suc k) (uses_before ns x k) (omega arith) h)

  pub uses_rise : (k : ℕ) → Rises (uses_before ns x k)
  unfolding uses_before
  uses_rise zero = tt
  uses_rise (suc k) = by_test (is_use ns x k) (uses_rise k)
    where
      by_test : (b : Bool) → Rises (uses_before ns x k) → Rises (uses_before ns x k ++ place_if b k)
      by_test true h = rises_behind k (uses_before ns x k) h (uses_below k)
      by_test false h = subst Rises (sym (append-nil (uses_before ns x k))) h

  -- how many come before a place
  pub before_is : (k t : ℕ) → t ≤ k → prefix_len (λ n. nat_lt n t) (uses_before ns x k) ≡ length (uses_before ns x t)
  before_is zero zero l = rw none_yet refl
  before_is zero (suc t) l = absurd (omega (arith, l))
  before_is (suc k) t l = by_case (below_or k t) (before_is k t)
    where
      earlier : (b : Bool) → t ≤ k → prefix_len (λ n. nat_lt n t) (uses_before ns x k) ≡ length (uses_before ns x t) → prefix_len (λ n. nat_lt n t) (uses_before ns x k ++ place_if b k) ≡ length (uses_before ns x t)
      earlier true h ih = prefix_stops t k (uses_before ns x k) (grind (arith, h, nat_tests)) ∙ ih
      earlier false h ih = ap (prefix_len (λ n. nat_lt n t)) (append-nil (uses_before ns x k)) ∙ ih

      by_case : (k < t) ⊎ (t ≤ k) → (t ≤ k → prefix_len (λ n. nat_lt n t) (uses_before ns x k) ≡ length (uses_before ns x t)) → prefix_len (λ n. nat_lt n t) (uses_before ns x (suc k)) ≡ length (uses_before ns x t)
      by_case (inr h) ih = ap (prefix_len (λ n. nat_lt n t)) (one_further k) ∙ earlier (is_use ns x k) h (ih h)
      by_case (inl h) ih =
          let q : t ≡ suc k = omega (arith, h, l) in
          subst (λ m. prefix_len (λ n. nat_lt n m) (uses_before ns x (suc k)) ≡ length (uses_before ns x m)) (sym q) (prefix_all (suc k) (uses_before ns x (suc k)) (uses_below (suc k)))

-- ---- a variable occurs in a term where uses are counted between its ends

pub record Window (a b : ℕ) (o : Bool) : Type 0 where
  pub order : a ≤ b
  pub found : o ≡ nat_lt a b

window_none : (a b : ℕ) → a ≡ b → Window a b false
window_none a b e = record { order = omega (arith, e); found = grind (arith, e, nat_tests) }

window_both : (a b c : ℕ) (o p : Bool) → Window a b o → Window b c p → Window a c (o || p)
window_both a b c o p v w =
    let h = v.order in
    let k = w.order in
    record { order = omega (arith, h, k); found = by_tests o p v.found w.found }
  where
    by_tests : (o p : Bool) → o ≡ nat_lt a b → p ≡ nat_lt b c → (o || p) ≡ nat_lt a c
    by_tests true p e f = let k = w.order in let h = ltb-true a b (sym e) in sym (lt-ltb a c (omega (arith, h, k)))
    by_tests false true e f = let k = v.order in let h = ltb-true b c (sym f) in sym (lt-ltb a c (omega (arith, h, k)))
    by_tests false false e f = let h = v.order in let k = w.order in grind (arith, e, f, h, k, nat_tests)

module _ (ns : List Node) (x : ℕ) where
  abbrev pub count : ℕ → ℕ
  count k = length (uses_before ns x k)

  at_use : (p q : ℕ) (b : Bool) → is_use ns x p ≡ b → q ≡ suc p → Window (count p) (count q) b
  at_use p q b e f = by_test b (ap (λ n. length (uses_before ns x n)) f ∙ ap length (one_further ns x p ∙ ap (λ c. uses_before ns x p ++ place_if c p) e))
    where
      by_test : (b : Bool) → count q ≡ length (uses_before ns x p ++ place_if b p) → Window (count p) (count q) b
      by_test true g = let h = length_push (uses_before ns x p) p in record { order = omega (arith, g, h); found = sym (lt-ltb (count p) (count q) (omega (arith, g, h))) }
      by_test false g = window_none (count p) (count q) (sym (g ∙ ap length (append-nil (uses_before ns x p))))

  mutual
    pub window : (u : Term) (p q : ℕ) → Laid ns p u → q ≡ p + size u → Window (count p) (count q) (occurs x u)
    window (Plain t v) p q l e = at_use p q (is_variable x v) (ap (is_own_view x) l) (omega (arith, e))
    window (Apply t o xs) p q l e =
        window_both (count p) (count (suc p)) (count q) false (occurs_in x xs) (at_use p (suc p) false (ap (is_own_view x) l.0) refl) (windows xs (suc p) q l.1 (omega (arith, e)))
    window (Nbr t a) p q l e =
        window_both (count p) (count (suc p)) (count q) false (occurs x a) (at_use p (suc p) false (ap (is_own_view x) l.0) refl) (window a (suc p) q l.1 (omega (arith, e)))
    window (Evolve t v a b) p q l e =
        let m = suc p + size a in
        window_both (count p) (count (suc p)) (count q) false (occurs x a || occurs x b) (at_use p (suc p) false (ap (is_own_view x) l.0) refl)
        (window_both (count (suc p)) (count m) (count q) (occurs x a) (occurs x b) (window a (suc p) m l.1 refl) (window b m q l.2 (omega (arith, e))))
    window (If t c a b) p q l e =
        let m = suc p + size c in
        let k = suc p + size c + size a in
        window_both (count p) (count (suc p)) (count q) false (occurs x c || (occurs x a || occurs x b)) (at_use p (suc p) false (ap (is_own_view x) l.0) refl)
        (window_both (count (suc p)) (count m) (count q) (occurs x c) (occurs x a || occurs x b) (window c (suc p) m l.1 refl)
        (window_both (count m) (count k) (count q) (occurs x a) (occurs x b) (window a m k l.2 refl) (window b k q l.3 (omega (arith, e)))))
    window (Let t a b) p q l e =
        let m = suc p + size a in
        window_both (count p) (count (suc p)) (count q) false (occurs x a || occurs x b) (at_use p (suc p) false (ap (is_own_view x) l.0) refl)
        (window_both (count (suc p)) (count m) (count q) (occurs x a) (occurs x b) (window a (suc p) m l.1 refl) (window b m q l.2 (omega (arith, e))))

    windows : (xs : Terms) (p q : ℕ) → AllLaid ns p xs → q ≡ p + sizes xs → Window (count p) (count q) (occurs_in x xs)
    windows NoMore p q l e = window_none (count p) (count q) (ap count (omega (arith, e)))
    windows (More t ts) p q l e =
        let m = p + size t in
        window_both (count p) (count m) (count q) (occurs x t) (occurs_in x ts) (window t p m l.0 refl) (windows ts m q l.1 (omega (arith, e)))

-- ---- a term ends within the nodes

module _ (ns : List Node) where
  mutual
    pub laid_end : (u : Term) (p : ℕ) → Laid ns p u → p + size u ≤ length ns
    laid_end (Plain t v) p l = let h = in_range ns p _ l in omega (arith, h)
    laid_end (Apply t o xs) p l = let h = in_range ns p _ l.0 in let k = laid_ends xs (suc p) (omega (arith, h)) l.1 in omega (arith, k)
    laid_end (Nbr t a) p l = let k = laid_end a (suc p) l.1 in omega (arith, k)
    laid_end (Evolve t v a b) p l = let k = laid_end b (suc p + size a) l.2 in omega (arith, k)
    laid_end (If t c a b) p l = let k = laid_end b (suc p + size c + size a) l.3 in omega (arith, k)
    laid_end (Let t a b) p l = let k = laid_end b (suc p + size a) l.2 in omega (arith, k)

    laid_ends : (xs : Terms) (p : ℕ) → p ≤ length ns → AllLaid ns p xs → p + sizes xs ≤ length ns
    laid_ends NoMore p h l = omega (arith, h)
    laid_ends (More x xs) p h l = let j = laid_end x p l.0 in let k = laid_ends xs (p + size x) j l.1 in omega (arith, k)

-- what the counts before a term and before its end tell
pub between : (ns : List Node) (x p q : ℕ) → StandsAt ns p → q ≡ p + size (term_at ns p)
    → nat_lt (prefix_len (λ n. nat_lt n p) (uses_before ns x (length ns))) (prefix_len (λ n. nat_lt n q) (uses_before ns x (length ns))) ≡ occurs x (term_at ns p)
between ns x p q st e =
    let l = laid_end ns (term_at ns p) p st.laid in
    let h = st.within in
    let w = window ns x (term_at ns p) p q st.laid e in
    let i = before_is ns x (length ns) p (omega (arith, h)) in
    let j = before_is ns x (length ns) q (omega (arith, l, e)) in
    rw (i, j) (sym w.found)

-- ---- the lists, node after node

noted_at : (uss : List (List ℕ)) (x p : ℕ) (y : ℕ) (b : Bool) → nat_eq x y ≡ b → y < length uss → get_or (noted uss x p) y [] ≡ get_or uss y [] ++ place_if b p
noted_at [] x p y b e l = absurd (omega (arith, l))
noted_at (us ∷ uss) zero p zero true e l = refl
noted_at (us ∷ uss) zero p zero false e l = absurd (grind (arith, e, nat_tests))
noted_at (us ∷ uss) zero p (suc y) true e l = absurd (grind (arith, e, nat_tests))
noted_at (us ∷ uss) zero p (suc y) false e l = sym (append-nil (get_or uss y []))
noted_at (us ∷ uss) (suc x) p zero true e l = absurd (grind (arith, e, nat_tests))
noted_at (us ∷ uss) (suc x) p zero false e l = sym (append-nil us)
noted_at (us ∷ uss) (suc x) p (suc y) true e l = noted_at uss x p y true (grind (arith, e, nat_tests)) (omega (arith, l))
noted_at (us ∷ uss) (suc x) p (suc y) false e l = noted_at uss x p y false (grind (arith, e, nat_tests)) (omega (arith, l))

noted_many : (uss : List (List ℕ)) (x p : ℕ) → length (noted uss x p) ≡ length uss
noted_many [] x p = refl
noted_many (us ∷ uss) zero p = refl
noted_many (us ∷ uss) (suc x) p = let e = noted_many uss x p in omega (arith, e)

noted_sort_many : (uss : List (List ℕ)) (s : Sort) (p : ℕ) → length (noted_sort uss s p) ≡ length uss
noted_sort_many uss (OfLeaf (Variable x)) p = noted_many uss x p
noted_sort_many uss (OfLeaf (Literal v)) p = refl
noted_sort_many uss (OfLeaf (Sense i)) p = refl
noted_sort_many uss (OfLeaf Uid) p = refl
noted_sort_many uss (OfLeaf NbrLink) p = refl
noted_sort_many uss (OfApply o) p = refl
noted_sort_many uss OfNbr p = refl
noted_sort_many uss (OfEvolve e) p = refl
noted_sort_many uss OfIf p = refl
noted_sort_many uss OfLet p = refl

noted_sort_at : (uss : List (List ℕ)) (s : Sort) (p y : ℕ) → y < length uss → get_or (noted_sort uss s p) y [] ≡ get_or uss y [] ++ place_if (is_own_sort y s) p
noted_sort_at uss (OfLeaf (Variable x)) p y l = noted_at uss x p y (nat_eq x y) refl l
noted_sort_at uss (OfLeaf (Literal v)) p y l = sym (append-nil (get_or uss y []))
noted_sort_at uss (OfLeaf (Sense i)) p y l = sym (append-nil (get_or uss y []))
noted_sort_at uss (OfLeaf Uid) p y l = sym (append-nil (get_or uss y []))
noted_sort_at uss (OfLeaf NbrLink) p y l = sym (append-nil (get_or uss y []))
noted_sort_at uss (OfApply o) p y l = sym (append-nil (get_or uss y []))
noted_sort_at uss OfNbr p y l = sym (append-nil (get_or uss y []))
noted_sort_at uss (OfEvolve e) p y l = sym (append-nil (get_or uss y []))
noted_sort_at uss OfIf p y l = sym (append-nil (get_or uss y []))
noted_sort_at uss OfLet p y l = sym (append-nil (get_or uss y []))

abbrev nothing : List ℕ
nothing = []

-- before any node
pub no_uses_yet : (ns : List Node) (uss : List (List ℕ)) → uss ≡ replicate (length ns) [] → AreUsesBefore ns 0 uss
no_uses_yet ns uss e = record {
  many = ap length e ∙ long (length ns);
  each = λ x l. ap (λ us. get_or us x []) e ∙ empty (length ns) x ∙ sym (none_yet ns x);
}
  where
    long : (n : ℕ) → length (replicate n nothing) ≡ n
    long zero = refl
    long (suc n) = let h = long n in omega (arith, h)

    empty : (n x : ℕ) → get_or (replicate n nothing) x [] ≡ []
    empty zero x = refl
    empty (suc n) zero = refl
    empty (suc n) (suc x) = empty n x

-- after one node more
pub uses_next : (ns : List Node) (k : ℕ) (uss vss : List (List ℕ)) (s : Sort) (t : ValueType) (ks : List ℕ) → AreUsesBefore ns k uss → HasNode ns k s t ks → vss ≡ noted_sort uss s k → AreUsesBefore ns (suc k) vss
uses_next ns k uss vss s t ks h n e =
    let m = h.many in
    record {
      many = ap length e ∙ noted_sort_many uss s k ∙ m;
      each = λ x l.
          ap (λ us. get_or us x []) e
          ∙ noted_sort_at uss s k x (omega (arith, l, m))
          ∙ ap (λ us. us ++ place_if (is_own_sort x s) k) (h.each x l)
          ∙ ap (λ b. uses_before ns x k ++ place_if b k) (sym (ap (is_own_view x) n))
          ∙ sym (one_further ns x k);
    }

-- in the vectors that hold them
pub noted_set : (vs : List (Vec ℕ Global)) (x p : ℕ) (v d : Vec ℕ Global) → x < length vs → v.items ≡ (get_or vs x d).items ++ p ∷ [] → lists_of (slice_set vs x v) ≡ noted (lists_of vs) x p
noted_set [] x p v d l e = absurd (omega (arith, l))
noted_set (w ∷ vs) zero p v d l e = ap (λ us. us ∷ lists_of vs) e
noted_set (w ∷ vs) (suc x) p v d l e = ap (λ uss. w.items ∷ uss) (noted_set vs x p v d (omega (arith, l)) e)

pub noted_past : (vs : List (Vec ℕ Global)) (x p : ℕ) → length vs ≤ x → lists_of vs ≡ noted (lists_of vs) x p
noted_past [] x p l = refl
noted_past (w ∷ vs) zero p l = absurd (omega (arith, l))
noted_past (w ∷ vs) (suc x) p l = ap (λ uss. w.items ∷ uss) (noted_past vs x p (omega (arith, l)))

-- ---- the end of a term is that of its last kid

-- a place at which a term ends
pub record EndsAt (ns : List Node) (q k e : ℕ) : Type 0 where
  pub behind : q ≤ k
  pub within : k < length ns
  pub end : k + size (term_at ns k) ≡ e

module _ (ns : List Node) (ab : AllAbove ns) where
  last_ends : (xs : Terms) (q k e : ℕ) → AllLaid ns q xs → e ≡ q + sizes xs → slice_get (places q xs) (length (places q xs) - 1) ≡ Some k → EndsAt ns q k e
  last_ends NoMore q k e l f g = absurd cc
  last_ends (More x NoMore) q k e l f g =
      let h : q ≡ k = cc in
      let i = laid_term ns ab x q l.0 in
      let j = ap size i in
      subst (λ m. EndsAt ns q m e) h (record { behind = omega arith; within = laid_within ns q x l.0; end = omega (arith, f, j) })
  last_ends (More x (More y ys)) q k e l f g =
      let m = q + size x in
      let h : length (places q (More x (More y ys))) - 1 ≡ suc (length (places m (More y ys)) - 1) = omega arith in
      let r = last_ends (More y ys) m k e l.1 (omega (arith, f)) (sym (ap (slice_get (places q (More x (More y ys)))) h) ∙ g) in
      let b = r.behind in
      record { behind = omega (arith, b); within = r.within; end = r.end }

  no_last : (xs : Terms) (q : ℕ) → slice_get (places q xs) (length (places q xs) - 1) ≡ None → sizes xs ≡ 0
  no_last NoMore q e = refl
  no_last (More x NoMore) q e = absurd cc
  no_last (More x (More y ys)) q e =
      let m = q + size x in
      let h : length (places q (More x (More y ys))) - 1 ≡ suc (length (places m (More y ys)) - 1) = omega arith in
      let r = no_last (More y ys) m (sym (ap (slice_get (places q (More x (More y ys)))) h) ∙ e) in
      absurd (some y r)
    where
      some : (y : Term) → size y + sizes ys ≡ 0 → ⊥
      some y r = let z = size_kids y in omega (arith, r, z)

module _ (ns : List Node) (formed : WellFormed ns) (p : ℕ) (h : p < length ns) (s : Sort) (t : ValueType) (ks : List ℕ) (n : HasNode ns p s t ks) where
  pub last_end : (k : ℕ) → slice_get ks (length ks - 1) ≡ Some k → EndsAt ns (suc p) k (p + size (term_at ns p))
  last_end k g =
      let ab = formed_above ns formed in
      let i = kids_are ns ab p s t ks n (each_stands ns formed p h).laid in
      let z = size_kids (term_at ns p) in
      last_ends ns ab (kids_of (term_at ns p)) (suc p) k (p + size (term_at ns p)) i.laid (omega (arith, z)) (subst (λ js. slice_get js (length js - 1) ≡ Some k) i.stand_at g)

  pub no_kid_end : slice_get ks (length ks - 1) ≡ None → p + size (term_at ns p) ≡ suc p
  no_kid_end g =
      let ab = formed_above ns formed in
      let i = kids_are ns ab p s t ks n (each_stands ns formed p h).laid in
      let z = size_kids (term_at ns p) in
      let y = no_last ns ab (kids_of (term_at ns p)) (suc p) (subst (λ js. slice_get js (length js - 1) ≡ None) i.stand_at g) in
      omega (arith, z, y)

-- ---- all binders

past_lists : (uss : List (List ℕ)) (x : ℕ) → length uss ≤ x → get_or uss x [] ≡ []
past_lists [] x l = refl
past_lists (us ∷ uss) zero l = absurd (omega (arith, l))
past_lists (us ∷ uss) (suc x) l = past_lists uss x (omega (arith, l))

module _ (P : Program) (program : IsProgram P) where
  -- a place behind the nodes is that of no binder
  unused : (x : ℕ) → length P.nodes ≤ x → uses_before P.nodes x (length P.nodes) ≡ []
  unused x l =
      let e = program.formed.whole in
      let w = window P.nodes x (term_at P.nodes 0) 0 (length P.nodes) program.formed.laid (omega (arith, e)) in
      let o = not_behind P.declared x 0 [] (term_at P.nodes 0) program.typed tt (omega (arith, l, e)) in
      empty (uses_before P.nodes x (length P.nodes)) (ap length (none_yet P.nodes x)) (sym w.found ∙ o)
    where
      empty : (us : List ℕ) → length (uses_before P.nodes x 0) ≡ 0 → nat_lt (length (uses_before P.nodes x 0)) (length us) ≡ false → us ≡ []
      empty [] e f = refl
      empty (u ∷ us) e f = absurd (grind (arith, e, f, nat_tests))

  pub all_uses : (uss : List (List ℕ)) → AreUsesBefore P.nodes (length P.nodes) uss → AreUses P.nodes uss
  all_uses uss h x = by_case (below_or x (length P.nodes))
    where
      by_case : (x < length P.nodes) ⊎ (length P.nodes ≤ x) → get_or uss x [] ≡ uses_before P.nodes x (length P.nodes)
      by_case (inl l) = h.each x l
      by_case (inr l) = let m = h.many in past_lists uss x (omega (arith, l, m)) ∙ sym (unused x l)

listed : (vs : List (Vec ℕ Global)) (x : ℕ) (v : Vec ℕ Global) → x < length vs → v ≡ get_or vs x v → get_or (lists_of vs) x [] ≡ v.items
listed [] x v l e = absurd (omega (arith, l))
listed (w ∷ vs) zero v l e = ap (λ (u : Vec ℕ Global). u.items) (sym e)
listed (w ∷ vs) (suc x) v l e = listed vs x v (omega (arith, l)) e

-- a binder without a list doesn't occur
pub unlisted : (ns : List Node) (x p : ℕ) → StandsAt ns p → (vs : List (Vec ℕ Global)) → AreUses ns (lists_of vs) → length vs ≤ x → occurs x (term_at ns p) ≡ false
unlisted ns x p st vs h l =
    let e = between ns x p (p + size (term_at ns p)) st refl in
    let none : uses_before ns x (length ns) ≡ [] = sym (h x) ∙ past_lists (lists_of vs) x (omega (arith, l, length-map vs (λ (v : Vec ℕ Global). v.items))) in
    sym e ∙ ap (λ us. nat_lt (prefix_len (λ n. nat_lt n p) us) (prefix_len (λ n. nat_lt n (p + size (term_at ns p))) us)) none

-- the list of a binder has its uses
pub list_is : (ns ms : List Node) (vs : List (Vec ℕ Global)) → ms ≡ ns → AreUses ms (lists_of vs) → (x : ℕ) (v : Vec ℕ Global) → x < length vs → v ≡ get_or vs x v → v.items ≡ uses_before ns x (length ns)
list_is ns ms vs same h x v l e = sym (listed vs x v l e) ∙ h x ∙ ap (λ ks. uses_before ks x (length ks)) same
