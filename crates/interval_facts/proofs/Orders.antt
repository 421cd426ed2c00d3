-- Two values of one type in their ranges, and the ranges of the lesser and the greater one.
use Rattle.std.proofs.Common.{◌≡◌, ◌⊎◌, inl, inr, ℕ, ◌≤◌, ◌<◌, refl, arith, Bool, true, false}
use Rattle.std.specs.Prelude.{if◌then◌else◌}
use Rattle.std.proofs.lemmas.Bool.Decides.{nat_tests}
use Rattle.std.specs.declared.cmp.Ordering.TheVariants as ord
use Rattle.std.proofs.lemmas.Bool.{cases_order}
use Rattle.fc_values.specs.Types.{LocalType, IntType, BoolType, PairType}
use Rattle.fc_values.specs.Values.{LocalValue, IntValue, BoolValue, PairValue, Fits, compare_values, is_less, lesser, greater}
use Rattle.interval_facts.specs.Ranges.{RangeValue, IntRange, BoolRange, PairRange, InRange, full, hull, least_range, greatest_range}

-- two values of one form, each in its range
pub data Two : RangeValue → RangeValue → LocalValue → LocalValue → Type 0 where
  integers : (a b c d n k : ℕ) → a ≤ n → n ≤ b → c ≤ k → k ≤ d → Two (IntRange a b) (IntRange c d) (IntValue n) (IntValue k)
  truths : (n k : Bool) → Two BoolRange BoolRange (BoolValue n) (BoolValue k)
  pairs : (r s r' s' : RangeValue) (v w v' w' : LocalValue) → Two r s v w → Two r' s' v' w' → Two (PairRange r r') (PairRange s s') (PairValue v v') (PairValue w w')

two_integers : (r s : RangeValue) (n k : ℕ) → InRange r (IntValue n) → InRange s (IntValue k) → Two r s (IntValue n) (IntValue k)
two_integers (IntRange a b) (IntRange c d) n k h i = integers a b c d n k h.0 h.1 i.0 i.1
two_integers (IntRange a b) BoolRange n k h i = absurd i
two_integers (IntRange a b) (PairRange r s) n k h i = absurd i
two_integers BoolRange s n k h i = absurd h
two_integers (PairRange r r') s n k h i = absurd h

two_truths : (r s : RangeValue) (n k : Bool) → InRange r (BoolValue n) → InRange s (BoolValue k) → Two r s (BoolValue n) (BoolValue k)
two_truths BoolRange BoolRange n k h i = truths n k
two_truths BoolRange (IntRange a b) n k h i = absurd i
two_truths BoolRange (PairRange r s) n k h i = absurd i
two_truths (IntRange a b) s n k h i = absurd h
two_truths (PairRange r r') s n k h i = absurd h

module _ (m : ℕ) where
  pub two : (t : LocalType) (r s : RangeValue) (v w : LocalValue) → Fits m t v → Fits m t w → InRange r v → InRange s w → Two r s v w
  two IntType r s (IntValue n) (IntValue k) f g h i = two_integers r s n k h i
  two IntType r s (IntValue n) (BoolValue b) f g h i = absurd g
  two IntType r s (IntValue n) (PairValue a b) f g h i = absurd g
  two IntType r s (BoolValue b) w f g h i = absurd f
  two IntType r s (PairValue a b) w f g h i = absurd f
  two BoolType r s (BoolValue n) (BoolValue k) f g h i = two_truths r s n k h i
  two BoolType r s (BoolValue n) (IntValue k) f g h i = absurd g
  two BoolType r s (BoolValue n) (PairValue a b) f g h i = absurd g
  two BoolType r s (IntValue b) w f g h i = absurd f
  two BoolType r s (PairValue a b) w f g h i = absurd f
  two (PairType t u) (PairRange r r') (PairRange s s') (PairValue v v') (PairValue w w') f g h i =
      pairs r s r' s' v w v' w' (two t r s v w f.0 g.0 h.0 i.0) (two u r' s' v' w' f.1 g.1 h.1 i.1)
  two (PairType t u) (PairRange r r') (IntRange a b) (PairValue v v') (PairValue w w') f g h i = absurd i
  two (PairType t u) (PairRange r r') BoolRange (PairValue v v') (PairValue w w') f g h i = absurd i
  two (PairType t u) (IntRange a b) s (PairValue v v') (PairValue w w') f g h i = absurd h
  two (PairType t u) BoolRange s (PairValue v v') (PairValue w w') f g h i = absurd h
  two (PairType t u) r s (PairValue v v') (IntValue n) f g h i = absurd g
  two (PairType t u) r s (PairValue v v') (BoolValue b) f g h i = absurd g
  two (PairType t u) r s (IntValue n) w f g h i = absurd f
  two (PairType t u) r s (BoolValue b) w f g h i = absurd f

  pub in_full : (t : LocalType) (v : LocalValue) → Fits m t v → InRange (full m t) v
  in_full IntType (IntValue n) h = (omega arith, h)
  in_full BoolType (BoolValue b) h = tt
  in_full (PairType s t) (PairValue a b) h = (in_full s a h.0, in_full t b h.1)
  in_full IntType (BoolValue b) h = absurd h
  in_full IntType (PairValue a b) h = absurd h
  in_full BoolType (IntValue n) h = absurd h
  in_full BoolType (PairValue a b) h = absurd h
  in_full (PairType s t) (IntValue n) h = absurd h
  in_full (PairType s t) (BoolValue b) h = absurd h

-- how two values of one form compare
data Sides (v w : LocalValue) : Type 0 where
  below : compare_values v w ≡ ord.Less → compare_values w v ≡ ord.Greater → Sides v w
  same : compare_values v w ≡ ord.Equal → compare_values w v ≡ ord.Equal → Sides v w
  above : compare_values v w ≡ ord.Greater → compare_values w v ≡ ord.Less → Sides v w

integer_sides : (n k : ℕ) → Sides (IntValue n) (IntValue k)
integer_sides n k = by_order (cases_order n k)
  where
    by_order : (n ≡ k) ⊎ ((n < k) ⊎ (k < n)) → Sides (IntValue n) (IntValue k)
    by_order (inr (inl l)) = below (grind (arith, nat_tests)) (grind (arith, nat_tests))
    by_order (inl e) = same (grind (arith, nat_tests)) (grind (arith, nat_tests))
    by_order (inr (inr l)) = above (grind (arith, nat_tests)) (grind (arith, nat_tests))

turned : {v w : LocalValue} → Sides v w → Sides w v
turned (below e f) = above f e
turned (same e f) = same f e
turned (above e f) = below f e

pair_sides : {v w v' w' : LocalValue} → Sides v w → Sides v' w' → Sides (PairValue v v') (PairValue w w')
pair_sides (below e f) t = below (rw e refl) (rw f refl)
pair_sides (above e f) t = above (rw e refl) (rw f refl)
pair_sides (same e f) (below g h) = below (rw (e, g) refl) (rw (f, h) refl)
pair_sides (same e f) (same g h) = same (rw (e, g) refl) (rw (f, h) refl)
pair_sides (same e f) (above g h) = above (rw (e, g) refl) (rw (f, h) refl)

sides : {r s : RangeValue} {v w : LocalValue} → Two r s v w → Sides v w
sides (integers a b c d n k h i j l) = integer_sides n k
sides (truths false false) = same refl refl
sides (truths false true) = below refl refl
sides (truths true false) = above refl refl
sides (truths true true) = same refl refl
sides (pairs r s r' s' v w v' w' p q) = pair_sides (sides p) (sides q)

-- the first is at most the second: the second doesn't come before it
abbrev pub AtMost : LocalValue → LocalValue → Type 0
AtMost v w = is_less (compare_values w v) ≡ false

-- what comes before a value is at most it
by_sides : {v w : LocalValue} → Sides v w → is_less (compare_values v w) ≡ true → AtMost v w
by_sides (below e f) h = rw f refl
by_sides (same e f) h = rw f refl
by_sides (above e f) h = let k : false ≡ true = rw e at h in absurd cc

first_sides : {v w : LocalValue} (v' w' : LocalValue) → Sides v w → AtMost (PairValue v v') (PairValue w w') → AtMost v w
first_sides v' w' (below e f) h = rw f refl
first_sides v' w' (same e f) h = rw f refl
first_sides v' w' (above e f) h = let k : true ≡ false = rw f at h in absurd cc

-- each of two values lies in the hull of their ranges
pub hull_first : {r s : RangeValue} {v w : LocalValue} → Two r s v w → InRange (hull r s) v
hull_first (integers a b c d n k h i j l) = (omega (arith, h), omega (arith, i))
hull_first (truths n k) = tt
hull_first (pairs r s r' s' v w v' w' p q) = (hull_first p, hull_first q)

pub hull_second : {r s : RangeValue} {v w : LocalValue} → Two r s v w → InRange (hull r s) w
hull_second (integers a b c d n k h i j l) = (omega (arith, j), omega (arith, l))
hull_second (truths n k) = tt
hull_second (pairs r s r' s' v w v' w' p q) = (hull_second p, hull_second q)

-- the lesser of two values
least_first : {r s : RangeValue} {v w : LocalValue} → Two r s v w → AtMost v w → InRange (least_range r s) v
least_first (integers a b c d n k h i j l) e = let o : n ≤ k = grind (arith, nat_tests) in (omega (arith, h), omega (arith, o, i, l))
least_first (truths n k) e = tt
least_first (pairs r s r' s' v w v' w' p q) e = (least_first p (first_sides v' w' (sides p) e), hull_first q)

least_second : {r s : RangeValue} {v w : LocalValue} → Two r s v w → AtMost w v → InRange (least_range r s) w
least_second (integers a b c d n k h i j l) e = let o : k ≤ n = grind (arith, nat_tests) in (omega (arith, j), omega (arith, o, i, l))
least_second (truths n k) e = tt
least_second (pairs r s r' s' v w v' w' p q) e = (least_second p (first_sides w' v' (turned (sides p)) e), hull_second q)

pub lesser_lies : {r s : RangeValue} {v w : LocalValue} → Two r s v w → InRange (least_range r s) (lesser v w)
lesser_lies {r} {s} {v} {w} p = by_test (is_less (compare_values w v)) refl
  where
    by_test : (c : Bool) → is_less (compare_values w v) ≡ c → InRange (least_range r s) (if c then w else v)
    by_test true e = least_second p (by_sides (turned (sides p)) e)
    by_test false e = least_first p e

-- the greater of two values
greatest_first : {r s : RangeValue} {v w : LocalValue} → Two r s v w → AtMost w v → InRange (greatest_range r s) v
greatest_first (integers a b c d n k h i j l) e = let o : k ≤ n = grind (arith, nat_tests) in (omega (arith, o, h, j), omega (arith, i))
greatest_first (truths n k) e = tt
greatest_first (pairs r s r' s' v w v' w' p q) e = (greatest_first p (first_sides w' v' (turned (sides p)) e), hull_first q)

greatest_second : {r s : RangeValue} {v w : LocalValue} → Two r s v w → AtMost v w → InRange (greatest_range r s) w
greatest_second (integers a b c d n k h i j l) e = let o : n ≤ k = grind (arith, nat_tests) in (omega (arith, o, h, j), omega (arith, l))
greatest_second (truths n k) e = tt
greatest_second (pairs r s r' s' v w v' w' p q) e = (greatest_second p (first_sides v' w' (sides p) e), hull_second q)

pub greater_lies : {r s : RangeValue} {v w : LocalValue} → Two r s v w → InRange (greatest_range r s) (greater v w)
greater_lies {r} {s} {v} {w} p = by_test (is_less (compare_values v w)) refl
  where
    by_test : (c : Bool) → is_less (compare_values v w) ≡ c → InRange (greatest_range r s) (if c then w else v)
    by_test true e = greatest_second p (by_sides (sides p) e)
    by_test false e = greatest_first p e
