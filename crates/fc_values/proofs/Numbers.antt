-- Crates above cite this module: numbers of devices: one more in its place, and those that stay among others.
use Rattle.std.proofs.Common.{◌≡◌, ℕ, ◌<◌, List, [], ◌∷◌, ◌++◌, refl, sym, ◌∙◌, ap, arith, Bool, true, false, ◌||◌, nat_eq, nat_lt}
use Rattle.std.specs.Prelude.{filter}
use Rattle.std.proofs.lemmas.Bool.{cond_both, ltb-true, lt-ltb}
use Rattle.std.proofs.lemmas.Bool.Decides.{nat_tests}
use Rattle.fc_values.specs.Fields.{Rises, is_in, with_number}
use Rattle.fc_values.proofs.Booleans.{or_true, or_no}
use Rattle.fc_values.proofs.Rising.{rises_tail, AllAbove, above_less, all_above, rises_more}

-- the number d, or one of these
abbrev pub stays : ℕ → List ℕ → ℕ → Bool
stays d ns e = nat_eq e d || is_in e ns

-- the numbers ms are some of ns, in order
pub data Part : List ℕ → List ℕ → Type 0 where
  part_none : Part [] []
  part_skip : {ms ns : List ℕ} (n : ℕ) → Part ms ns → Part ms (n ∷ ns)
  part_keep : {ms ns : List ℕ} (n : ℕ) → Part ms ns → Part (n ∷ ms) (n ∷ ns)

-- with one more, they still rise
above_with : (a d : ℕ) (ns : List ℕ) → a < d → AllAbove a ns → AllAbove a (with_number d ns)
above_with a d [] l h = (l, tt)
above_with a d (n ∷ ns) l h = cond_both (nat_lt d n) (d ∷ n ∷ ns) (n ∷ with_number d ns) (AllAbove a) (λ e. (l, h)) (λ e. (h.0, above_with a d ns l h.1))

pub rises_with : (d : ℕ) (ns : List ℕ) → is_in d ns ≡ false → Rises ns → Rises (with_number d ns)
rises_with d [] e h = tt
rises_with d (n ∷ ns) e h =
    cond_both (nat_lt d n) (d ∷ n ∷ ns) (n ∷ with_number d ns) Rises (λ l. (ltb-true d n l, h)) (λ l.
    let other : nat_eq d n ≡ false = (or_no (nat_eq d n) (is_in d ns) e).0 in
    let below : n < d = grind (arith, nat_tests) in
    rises_more n (with_number d ns) (above_with n d ns below (all_above n ns h)) (rises_with d ns (or_no (nat_eq d n) (is_in d ns) e).1 (rises_tail n ns h)))

-- a part of rising numbers
pub above_part : {ms ns : List ℕ} (a : ℕ) → Part ms ns → AllAbove a ns → AllAbove a ms
above_part a part_none h = tt
above_part a (part_skip n p) h = above_part a p h.1
above_part a (part_keep n p) h = (h.0, above_part a p h.1)

pub rises_part : {ms ns : List ℕ} → Part ms ns → Rises ns → Rises ms
rises_part part_none h = tt
rises_part (part_skip {ms} {ns} n p) h = rises_part p (rises_tail n ns h)
rises_part (part_keep {ms} {ns} n p) h = rises_more n ms (above_part n p (all_above n ns h)) (rises_part p (rises_tail n ns h))

-- what isn't among numbers isn't among a part of them
pub not_in_part : {ms ns : List ℕ} (d : ℕ) → Part ms ns → is_in d ns ≡ false → is_in d ms ≡ false
not_in_part d part_none e = refl
not_in_part d (part_skip {ms} {ns} n p) e = not_in_part d p (or_no (nat_eq d n) (is_in d ns) e).1
not_in_part d (part_keep {ms} {ns} n p) e =
    let first = (or_no (nat_eq d n) (is_in d ns) e).0 in
    let rest = not_in_part d p (or_no (nat_eq d n) (is_in d ns) e).1 in
    rw (first, rest) refl

above_not_in : (a : ℕ) (ns : List ℕ) → AllAbove a ns → is_in a ns ≡ false
above_not_in a [] h = refl
above_not_in a (n ∷ ns) h =
    let above : a < n = h.0 in
    let first : nat_eq a n ≡ false = grind (arith, nat_tests) in
    let rest = above_not_in a ns h.1 in
    rw (first, rest) refl

-- each of some numbers
abbrev pub EachOf : (ℕ → Type 0) → List ℕ → Type 0
EachOf P [] = Unit {0}
EachOf P (n ∷ ns) = P n × EachOf P ns

each_less : (q : ℕ → Bool) (n : ℕ) (ms ns : List ℕ) → AllAbove n ns → EachOf (λ e. q e ≡ is_in e (n ∷ ms)) ns → EachOf (λ e. q e ≡ is_in e ms) ns
each_less q n ms [] a h = tt
each_less q n ms (m ∷ ns) a h =
    let above : n < m = a.0 in
    let other : nat_eq m n ≡ false = grind (arith, nat_tests) in
    let first : q m ≡ (nat_eq m n || is_in m ms) = h.0 in
    (first ∙ ap (λ (b : Bool). b || is_in m ms) other, each_less q n ms ns a.1 h.1)

-- a test that says which of the numbers are a part gives the part
filter_part : {ms ns : List ℕ} (q : ℕ → Bool) → Part ms ns → Rises ns → EachOf (λ e. q e ≡ is_in e ms) ns → filter q ns ≡ ms
filter_part q part_none r h = refl
filter_part q (part_skip {ms} {ns} n p) r h =
    let out : is_in n ms ≡ false = above_not_in n ms (above_part n p (all_above n ns r)) in
    let rest = filter_part q p (rises_tail n ns r) h.1 in
    let first = h.0 in
    rw (first, out) rest
filter_part q (part_keep {ms} {ns} n p) r h =
    let same : nat_eq n n ≡ true = grind (arith, nat_tests) in
    let first = h.0 in
    let rest = filter_part q p (rises_tail n ns r) (each_less q n ms ns (all_above n ns r) h.1) in
    rw (first, same) (ap (λ (xs : List ℕ). n ∷ xs) rest)

each_stays : (d : ℕ) (ms ns : List ℕ) → is_in d ns ≡ false → EachOf (λ e. stays d ms e ≡ is_in e ms) ns
each_stays d ms [] e = tt
each_stays d ms (n ∷ ns) e =
    let first : nat_eq n d ≡ false = flip (or_no (nat_eq d n) (is_in d ns) e).0 in
    (rw first refl, each_stays d ms ns (or_no (nat_eq d n) (is_in d ns) e).1)
  where
    flip : nat_eq d n ≡ false → nat_eq n d ≡ false
    flip f = grind (arith, nat_tests)

-- a filter, and one more number that it lets through
with_least : (d : ℕ) (ns : List ℕ) → AllAbove d ns → with_number d ns ≡ d ∷ ns
with_least d [] h = refl
with_least d (n ∷ ns) h = let e = lt-ltb d n h.0 in rw e refl

above_filter : (a : ℕ) (q : ℕ → Bool) (ns : List ℕ) → AllAbove a ns → AllAbove a (filter q ns)
above_filter a q [] h = tt
above_filter a q (n ∷ ns) h = cond_both (q n) (n ∷ filter q ns) (filter q ns) (AllAbove a) (λ e. (h.0, above_filter a q ns h.1)) (λ e. above_filter a q ns h.1)

filter_with : (q : ℕ → Bool) (d : ℕ) (ns : List ℕ) → q d ≡ true → Rises ns → filter q (with_number d ns) ≡ with_number d (filter q ns)
filter_with q d [] e r = rw e refl
filter_with q d (n ∷ ns) e r = by_tests (nat_lt d n) (q n) refl refl (filter_with q d ns e (rises_tail n ns r))
  where
    by_tests : (b c : Bool) → nat_lt d n ≡ b → q n ≡ c → filter q (with_number d ns) ≡ with_number d (filter q ns) → filter q (with_number d (n ∷ ns)) ≡ with_number d (filter q (n ∷ ns))
    by_tests true c t u h =
        let above : AllAbove d (n ∷ ns) = (ltb-true d n t, above_less d n ns (ltb-true d n t) (all_above n ns r)) in
        let least = with_least d (filter q (n ∷ ns)) (above_filter d q (n ∷ ns) above) in
        rw (t, e) (sym least)
    by_tests false true t u h = rw (t, u) (rw t (ap (λ (xs : List ℕ). n ∷ xs) h))
    by_tests false false t u h = rw (t, u) h

filter_twice : (q r : ℕ → Bool) → ((e : ℕ) → q e ≡ true → r e ≡ true) → (ds : List ℕ) → filter q (filter r ds) ≡ filter q ds
filter_twice q r f [] = refl
filter_twice q r f (d ∷ ds) = by_tests (q d) (r d) refl refl (filter_twice q r f ds)
  where
    by_tests : (b c : Bool) → q d ≡ b → r d ≡ c → filter q (filter r ds) ≡ filter q ds → filter q (filter r (d ∷ ds)) ≡ filter q (d ∷ ds)
    by_tests true true t u h = rw (t, u) (rw t (ap (λ (xs : List ℕ). d ∷ xs) h))
    by_tests true false t u h = let v = f d t in absurd cc
    by_tests false true t u h = rw (t, u) (rw t h)
    by_tests false false t u h = rw (t, u) h

part_in : {ms ns : List ℕ} (e : ℕ) → Part ms ns → is_in e ms ≡ true → is_in e ns ≡ true
part_in e part_none h = h
part_in e (part_skip {ms} {ns} n p) h = or_true (nat_eq e n) (is_in e ns) (part_in e p h)
part_in e (part_keep {ms} {ns} n p) h = by_test (nat_eq e n) refl h (part_in e p)
  where
    by_test : (b : Bool) → nat_eq e n ≡ b → (nat_eq e n || is_in e ms) ≡ true → (is_in e ms ≡ true → is_in e ns ≡ true) → (nat_eq e n || is_in e ns) ≡ true
    by_test true t h f = rw t refl
    by_test false t h f = rw t (f (rw t at h))

part_all : (ns : List ℕ) → Part ns ns
part_all [] = part_none
part_all (n ∷ ns) = part_keep n (part_all ns)

module _ (d : ℕ) {ms ns : List ℕ} (p : Part ms ns) (r : Rises ns) (other : is_in d ns ≡ false) where
  -- of a device with its neighbours, those that stay with a part of the neighbours
  pub part_stays : filter (stays d ms) (with_number d ns) ≡ with_number d ms
  part_stays =
      let itself : nat_eq d d ≡ true = grind (arith, nat_tests) in
      let e : stays d ms d ≡ true = rw itself refl in
      filter_with (stays d ms) d ns e r ∙ ap (with_number d) (filter_part (stays d ms) p r (each_stays d ms ns other))

  pub still_stays : (ds : List ℕ) → filter (stays d ns) ds ≡ with_number d ns → filter (stays d ms) ds ≡ with_number d ms
  still_stays ds h = sym (filter_twice (stays d ms) (stays d ns) wider ds) ∙ ap (filter (stays d ms)) h ∙ part_stays
    where
      wider : (e : ℕ) → stays d ms e ≡ true → stays d ns e ≡ true
      wider e = by_test (nat_eq e d) refl
        where
          by_test : (b : Bool) → nat_eq e d ≡ b → (nat_eq e d || is_in e ms) ≡ true → (nat_eq e d || is_in e ns) ≡ true
          by_test true t h = rw t refl
          by_test false t h = rw t (part_in e p (rw t at h))

pub all_stay : (d : ℕ) (ns : List ℕ) → Rises ns → is_in d ns ≡ false → filter (stays d ns) (with_number d ns) ≡ with_number d ns
all_stay d ns r other = part_stays d (part_all ns) r other

pub in_append : (d : ℕ) (xs ys : List ℕ) → is_in d (xs ++ ys) ≡ (is_in d xs || is_in d ys)
in_append d [] ys = refl
in_append d (x ∷ xs) ys = by_test (nat_eq d x) (in_append d xs ys)
  where
    by_test : (q : Bool) → is_in d (xs ++ ys) ≡ (is_in d xs || is_in d ys) → (q || is_in d (xs ++ ys)) ≡ ((q || is_in d xs) || is_in d ys)
    by_test true ih = refl
    by_test false ih = ih
