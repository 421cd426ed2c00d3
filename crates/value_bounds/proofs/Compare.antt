-- Bounds and the order of values: what may come first, the lesser and the greater of two.
use Rattle.std.proofs.Common.{◌≡◌, ℕ, ◌≤◌, ◌<◌, refl, sym, ◌∙◌, ap, subst, arith, Bool, true, false, not, ◌&&◌, ◌||◌}
use Rattle.std.specs.Prelude.{nat_eq, nat_le}
use Rattle.std.specs.Ordering.{nat_cmp, MatchOrdering, ordering_reverse}
use Rattle.std.specs.Cmp.{nat_cmp_is}
use Rattle.std.proofs.lemmas.Cmp.{ranked}
use Rattle.std.specs.declared.cmp.Ordering.{Ordering}
use Rattle.std.specs.declared.cmp.Ordering.TheVariants as ord
use Rattle.fc_values.specs.Values.{LocalValue, IntValue, BoolValue, PairValue, compare_truths, then_order, compare_values, is_less, lesser, greater}
use Rattle.fc_values.proofs.Orders.{compare_flips}
use Rattle.value_bounds.specs.BoundValues.{BoundValue, Between, Truths, Both, Unbounded, Lies, either, low_order, high_order, is_greater, may_less, must_less, may_greater, may_equal, must_equal, second, lesser_bound, greater_bound}
use Rattle.value_bounds.proofs.Values.{either_left, either_right, both_parts, nat_same, and_low, or_high, and_low', or_high'}

-- ---- the order of orders

abbrev pub UpTo : Ordering → Ordering → Type 0
UpTo ord.Less o = Unit {0}
UpTo ord.Equal ord.Less = ⊥
UpTo ord.Equal ord.Equal = Unit {0}
UpTo ord.Equal ord.Greater = Unit {0}
UpTo ord.Greater ord.Less = ⊥
UpTo ord.Greater ord.Equal = ⊥
UpTo ord.Greater ord.Greater = Unit {0}

up_to_greater : (o : Ordering) → UpTo o ord.Greater
up_to_greater ord.Less = tt
up_to_greater ord.Equal = tt
up_to_greater ord.Greater = tt

then_rises : (o o' r r' : Ordering) → UpTo o o' → UpTo r r' → UpTo (then_order o r) (then_order o' r')
then_rises ord.Less o' r r' h g = tt
then_rises ord.Equal ord.Less r r' h g = absurd h
then_rises ord.Equal ord.Equal r r' h g = g
then_rises ord.Equal ord.Greater r r' h g = up_to_greater r
then_rises ord.Greater ord.Less r r' h g = absurd h
then_rises ord.Greater ord.Equal r r' h g = absurd h
then_rises ord.Greater ord.Greater r r' h g = tt

nat_rises : (a b c d : ℕ) → a ≤ c → d ≤ b → UpTo (nat_cmp a b) (nat_cmp c d)
nat_rises a b c d h g = by_order (nat_cmp a b) (ranked a b (nat_cmp a b) refl) (nat_cmp c d) (ranked c d (nat_cmp c d) refl)
  where
    by_order : (o : Ordering) → MatchOrdering o (a < b) (a ≡ b) (b < a) → (r : Ordering) → MatchOrdering r (c < d) (c ≡ d) (d < c) → UpTo o r
    by_order ord.Less p r q = tt
    by_order ord.Equal p ord.Less q = absurd (omega (arith, p, q, h, g))
    by_order ord.Equal p ord.Equal q = tt
    by_order ord.Equal p ord.Greater q = tt
    by_order ord.Greater p ord.Less q = absurd (omega (arith, p, q, h, g))
    by_order ord.Greater p ord.Equal q = absurd (omega (arith, p, q, h, g))
    by_order ord.Greater p ord.Greater q = tt

truth_rises : (a b c d : Bool) → (a ≡ true → c ≡ true) → (d ≡ true → b ≡ true) → UpTo (compare_truths a b) (compare_truths c d)
truth_rises false true c d h g = tt
truth_rises false false c true h g = let e = g refl in absurd cc
truth_rises false false false false h g = tt
truth_rises false false true false h g = tt
truth_rises true b false d h g = let e = h refl in absurd cc
truth_rises true true true false h g = tt
truth_rises true true true true h g = tt
truth_rises true false true true h g = let e = g refl in absurd cc
truth_rises true false true false h g = tt

pub low_is_low : (a b : BoundValue) (v w : LocalValue) → Lies a v → Lies b w → UpTo (low_order a b) (compare_values v w)
low_is_low (Between x y) (Between x' y') (IntValue m) (IntValue n) h g = nat_rises x y' m n h.0 g.1
low_is_low (Between x y) (Between x' y') (IntValue m) (BoolValue n) h g = absurd g
low_is_low (Between x y) (Between x' y') (IntValue m) (PairValue n n') h g = absurd g
low_is_low (Between x y) (Between x' y') (BoolValue m) w h g = absurd h
low_is_low (Between x y) (Between x' y') (PairValue m m') w h g = absurd h
low_is_low (Between x y) (Truths x' y') v w h g = tt
low_is_low (Between x y) (Both x' y') v w h g = tt
low_is_low (Between x y) Unbounded v w h g = tt
low_is_low (Truths x y) (Truths x' y') (BoolValue m) (BoolValue n) h g = truth_rises x y' m n h.0 g.1
low_is_low (Truths x y) (Truths x' y') (BoolValue m) (IntValue n) h g = absurd g
low_is_low (Truths x y) (Truths x' y') (BoolValue m) (PairValue n n') h g = absurd g
low_is_low (Truths x y) (Truths x' y') (IntValue m) w h g = absurd h
low_is_low (Truths x y) (Truths x' y') (PairValue m m') w h g = absurd h
low_is_low (Truths x y) (Between x' y') v w h g = tt
low_is_low (Truths x y) (Both x' y') v w h g = tt
low_is_low (Truths x y) Unbounded v w h g = tt
low_is_low (Both a b) (Both c d) (PairValue v v') (PairValue w w') h g =
    then_rises (low_order a c) (compare_values v w) (low_order b d) (compare_values v' w') (low_is_low a c v w h.0 g.0) (low_is_low b d v' w' h.1 g.1)
low_is_low (Both a b) (Both c d) (PairValue v v') (IntValue n) h g = absurd g
low_is_low (Both a b) (Both c d) (PairValue v v') (BoolValue n) h g = absurd g
low_is_low (Both a b) (Both c d) (IntValue m) w h g = absurd h
low_is_low (Both a b) (Both c d) (BoolValue m) w h g = absurd h
low_is_low (Both a b) (Between x' y') v w h g = tt
low_is_low (Both a b) (Truths x' y') v w h g = tt
low_is_low (Both a b) Unbounded v w h g = tt
low_is_low Unbounded b v w h g = tt

pub high_is_high : (a b : BoundValue) (v w : LocalValue) → Lies a v → Lies b w → UpTo (compare_values v w) (high_order a b)
high_is_high (Between x y) (Between x' y') (IntValue m) (IntValue n) h g = nat_rises m n y x' h.1 g.0
high_is_high (Between x y) (Between x' y') (IntValue m) (BoolValue n) h g = absurd g
high_is_high (Between x y) (Between x' y') (IntValue m) (PairValue n n') h g = absurd g
high_is_high (Between x y) (Between x' y') (BoolValue m) w h g = absurd h
high_is_high (Between x y) (Between x' y') (PairValue m m') w h g = absurd h
high_is_high (Between x y) (Truths x' y') v w h g = up_to_greater (compare_values v w)
high_is_high (Between x y) (Both x' y') v w h g = up_to_greater (compare_values v w)
high_is_high (Between x y) Unbounded v w h g = up_to_greater (compare_values v w)
high_is_high (Truths x y) (Truths x' y') (BoolValue m) (BoolValue n) h g = truth_rises m n y x' h.1 g.0
high_is_high (Truths x y) (Truths x' y') (BoolValue m) (IntValue n) h g = absurd g
high_is_high (Truths x y) (Truths x' y') (BoolValue m) (PairValue n n') h g = absurd g
high_is_high (Truths x y) (Truths x' y') (IntValue m) w h g = absurd h
high_is_high (Truths x y) (Truths x' y') (PairValue m m') w h g = absurd h
high_is_high (Truths x y) (Between x' y') v w h g = up_to_greater (compare_values v w)
high_is_high (Truths x y) (Both x' y') v w h g = up_to_greater (compare_values v w)
high_is_high (Truths x y) Unbounded v w h g = up_to_greater (compare_values v w)
high_is_high (Both a b) (Both c d) (PairValue v v') (PairValue w w') h g =
    then_rises (compare_values v w) (high_order a c) (compare_values v' w') (high_order b d) (high_is_high a c v w h.0 g.0) (high_is_high b d v' w' h.1 g.1)
high_is_high (Both a b) (Both c d) (PairValue v v') (IntValue n) h g = absurd g
high_is_high (Both a b) (Both c d) (PairValue v v') (BoolValue n) h g = absurd g
high_is_high (Both a b) (Both c d) (IntValue m) w h g = absurd h
high_is_high (Both a b) (Both c d) (BoolValue m) w h g = absurd h
high_is_high (Both a b) (Between x' y') v w h g = up_to_greater (compare_values v w)
high_is_high (Both a b) (Truths x' y') v w h g = up_to_greater (compare_values v w)
high_is_high (Both a b) Unbounded v w h g = up_to_greater (compare_values v w)
high_is_high Unbounded b v w h g = up_to_greater (compare_values v w)

-- ---- equal

nat_same_order : (a b : ℕ) → nat_cmp a b ≡ ord.Equal → a ≡ b
nat_same_order a b e = subst (λ o. MatchOrdering o (a < b) (a ≡ b) (b < a)) e (ranked a b (nat_cmp a b) refl)

then_same : (o r : Ordering) → then_order o r ≡ ord.Equal → (o ≡ ord.Equal) × (r ≡ ord.Equal)
then_same ord.Equal r h = (refl, h)
then_same ord.Less r h = absurd cc
then_same ord.Greater r h = absurd cc

le_test : (a b : ℕ) → a ≤ b → nat_le a b ≡ true
le_test a b h = grind (arith, h)

truth_meets : (a b c d m n : Bool) → (a ≡ true → m ≡ true) → (m ≡ true → b ≡ true) → (c ≡ true → n ≡ true) → (n ≡ true → d ≡ true) → compare_truths m n ≡ ord.Equal → ((not a || d) && (not c || b)) ≡ true
truth_meets false b false d m n p q r s e = refl
truth_meets false b true d true true p q r s e = q refl
truth_meets false b true d m false p q r s e = let x = r refl in absurd cc
truth_meets false b true d false true p q r s e = absurd cc
truth_meets true b c d false n p q r s e = let x = p refl in absurd cc
truth_meets true b c d true false p q r s e = absurd cc
truth_meets true b c d true true p q r s e = let x = s refl in let y = q refl in by_test c x y
  where
    by_test : (c : Bool) → d ≡ true → b ≡ true → (d && (not c || b)) ≡ true
    by_test true x y = rw (x, y) refl
    by_test false x y = rw x refl

pub equal_may : (a b : BoundValue) (v w : LocalValue) → Lies a v → Lies b w → compare_values v w ≡ ord.Equal → may_equal a b ≡ true
equal_may (Between x y) (Between x' y') (IntValue m) (IntValue n) h g e =
    let s = nat_same_order m n e in
    let p = le_test x y' (omega (arith, s, h.0, g.1)) in
    let q = le_test x' y (omega (arith, s, h.1, g.0)) in
    rw (p, q) refl
equal_may (Between x y) (Between x' y') (IntValue m) (BoolValue n) h g e = absurd g
equal_may (Between x y) (Between x' y') (IntValue m) (PairValue n n') h g e = absurd g
equal_may (Between x y) (Between x' y') (BoolValue m) w h g e = absurd h
equal_may (Between x y) (Between x' y') (PairValue m m') w h g e = absurd h
equal_may (Between x y) (Truths x' y') v w h g e = refl
equal_may (Between x y) (Both x' y') v w h g e = refl
equal_may (Between x y) Unbounded v w h g e = refl
equal_may (Truths x y) (Truths x' y') (BoolValue m) (BoolValue n) h g e = truth_meets x y x' y' m n h.0 h.1 g.0 g.1 e
equal_may (Truths x y) (Truths x' y') (BoolValue m) (IntValue n) h g e = absurd g
equal_may (Truths x y) (Truths x' y') (BoolValue m) (PairValue n n') h g e = absurd g
equal_may (Truths x y) (Truths x' y') (IntValue m) w h g e = absurd h
equal_may (Truths x y) (Truths x' y') (PairValue m m') w h g e = absurd h
equal_may (Truths x y) (Between x' y') v w h g e = refl
equal_may (Truths x y) (Both x' y') v w h g e = refl
equal_may (Truths x y) Unbounded v w h g e = refl
equal_may (Both a b) (Both c d) (PairValue v v') (PairValue w w') h g e =
    let s = then_same (compare_values v w) (compare_values v' w') e in
    let p = equal_may a c v w h.0 g.0 s.0 in
    let q = equal_may b d v' w' h.1 g.1 s.1 in
    rw (p, q) refl
equal_may (Both a b) (Both c d) (PairValue v v') (IntValue n) h g e = absurd g
equal_may (Both a b) (Both c d) (PairValue v v') (BoolValue n) h g e = absurd g
equal_may (Both a b) (Both c d) (IntValue m) w h g e = absurd h
equal_may (Both a b) (Both c d) (BoolValue m) w h g e = absurd h
equal_may (Both a b) (Between x' y') v w h g e = refl
equal_may (Both a b) (Truths x' y') v w h g e = refl
equal_may (Both a b) Unbounded v w h g e = refl
equal_may Unbounded b v w h g e = refl

pub must_be_equal : (a b : BoundValue) (v w : LocalValue) → Lies a v → Lies b w → must_equal a b ≡ true → compare_values v w ≡ ord.Equal
must_be_equal (Between x y) (Between x' y') (IntValue m) (IntValue n) h g e =
    let s = both_parts (nat_eq x y && nat_eq x' y') (nat_eq x x') e in
    let t = both_parts (nat_eq x y) (nat_eq x' y') s.0 in
    let p = nat_same x y t.0 in
    let q = nat_same x' y' t.1 in
    let r = nat_same x x' s.1 in
    sym (nat_cmp_is m n ord.Equal (omega (arith, p, q, r, h.0, h.1, g.0, g.1)))
must_be_equal (Between x y) (Between x' y') (IntValue m) (BoolValue n) h g e = absurd g
must_be_equal (Between x y) (Between x' y') (IntValue m) (PairValue n n') h g e = absurd g
must_be_equal (Between x y) (Between x' y') (BoolValue m) w h g e = absurd h
must_be_equal (Between x y) (Between x' y') (PairValue m m') w h g e = absurd h
must_be_equal (Truths false false) (Truths false false) (BoolValue false) (BoolValue false) h g e = refl
must_be_equal (Truths false false) (Truths false false) (BoolValue true) (BoolValue n) h g e = let p = h.1 refl in absurd cc
must_be_equal (Truths false false) (Truths false false) (BoolValue false) (BoolValue true) h g e = let p = g.1 refl in absurd cc
must_be_equal (Truths true true) (Truths true true) (BoolValue m) (BoolValue n) h g e = let p = h.0 refl in let q = g.0 refl in rw (p, q) refl
must_be_equal (Truths x y) (Truths x' y') (BoolValue m) (IntValue n) h g e = absurd g
must_be_equal (Truths x y) (Truths x' y') (BoolValue m) (PairValue n n') h g e = absurd g
must_be_equal (Truths x y) (Truths x' y') (IntValue m) w h g e = absurd h
must_be_equal (Truths x y) (Truths x' y') (PairValue m m') w h g e = absurd h
must_be_equal (Both a b) (Both c d) (PairValue v v') (PairValue w w') h g e =
    let s = both_parts (must_equal a c) (must_equal b d) e in
    let p = must_be_equal a c v w h.0 g.0 s.0 in
    let q = must_be_equal b d v' w' h.1 g.1 s.1 in
    rw (p, q) refl
must_be_equal (Both a b) (Both c d) (PairValue v v') (IntValue n) h g e = absurd g
must_be_equal (Both a b) (Both c d) (PairValue v v') (BoolValue n) h g e = absurd g
must_be_equal (Both a b) (Both c d) (IntValue m) w h g e = absurd h
must_be_equal (Both a b) (Both c d) (BoolValue m) w h g e = absurd h
must_be_equal a b v w h g e = absurd cc

-- ---- the lesser and the greater

is_less_up : (o r : Ordering) → UpTo o r → is_less r ≡ true → is_less o ≡ true
is_less_up ord.Less r h e = refl
is_less_up ord.Equal ord.Less h e = absurd h
is_less_up ord.Equal ord.Equal h e = absurd cc
is_less_up ord.Equal ord.Greater h e = absurd cc
is_less_up ord.Greater ord.Less h e = absurd h
is_less_up ord.Greater ord.Equal h e = absurd cc
is_less_up ord.Greater ord.Greater h e = absurd cc

is_greater_up : (o r : Ordering) → UpTo o r → is_greater o ≡ true → is_greater r ≡ true
is_greater_up ord.Less r h e = absurd cc
is_greater_up ord.Equal r h e = absurd cc
is_greater_up ord.Greater ord.Less h e = absurd h
is_greater_up ord.Greater ord.Equal h e = absurd h
is_greater_up ord.Greater ord.Greater h e = refl

pub less_may : (a b : BoundValue) (v w : LocalValue) → Lies a v → Lies b w → is_less (compare_values v w) ≡ true → may_less a b ≡ true
less_may a b v w h g e = is_less_up (low_order a b) (compare_values v w) (low_is_low a b v w h g) e

pub must_be_less : (a b : BoundValue) (v w : LocalValue) → Lies a v → Lies b w → must_less a b ≡ true → is_less (compare_values v w) ≡ true
must_be_less a b v w h g e = is_less_up (compare_values v w) (high_order a b) (high_is_high a b v w h g) e

greater_may : (a b : BoundValue) (v w : LocalValue) → Lies a v → Lies b w → is_greater (compare_values v w) ≡ true → may_greater a b ≡ true
greater_may a b v w h g e = is_greater_up (compare_values v w) (high_order a b) (high_is_high a b v w h g) e

second_left : (g e : Bool) (x y z : BoundValue) (u : LocalValue) → Lies x u → Lies (second true g e x y z) u
second_left true true x y z u h = either_left (either x y) z u (either_left x y u h)
second_left true false x y z u h = either_left x y u h
second_left false true x y z u h = either_left x z u h
second_left false false x y z u h = h

second_right : (l e : Bool) (x y z : BoundValue) (u : LocalValue) → Lies y u → Lies (second l true e x y z) u
second_right true true x y z u h = either_left (either x y) z u (either_right x y u h)
second_right true false x y z u h = either_right x y u h
second_right false true x y z u h = either_left y z u h
second_right false false x y z u h = h

second_both : (l g : Bool) (x y z : BoundValue) (u : LocalValue) → Lies z u → Lies (second l g true x y z) u
second_both true true x y z u h = either_right (either x y) z u h
second_both true false x y z u h = either_right x z u h
second_both false true x y z u h = either_right y z u h
second_both false false x y z u h = h

nat_up : (m n : ℕ) → UpTo (nat_cmp m n) ord.Equal → m ≤ n
nat_up m n h = by_order (nat_cmp m n) (ranked m n (nat_cmp m n) refl) h
  where
    by_order : (o : Ordering) → MatchOrdering o (m < n) (m ≡ n) (n < m) → UpTo o ord.Equal → m ≤ n
    by_order ord.Less p h = omega (arith, p)
    by_order ord.Equal p h = omega (arith, p)
    by_order ord.Greater p h = absurd h

nat_down : (m n : ℕ) → UpTo ord.Equal (nat_cmp m n) → n ≤ m
nat_down m n h = by_order (nat_cmp m n) (ranked m n (nat_cmp m n) refl) h
  where
    by_order : (o : Ordering) → MatchOrdering o (m < n) (m ≡ n) (n < m) → UpTo ord.Equal o → n ≤ m
    by_order ord.Less p h = absurd h
    by_order ord.Equal p h = omega (arith, p)
    by_order ord.Greater p h = omega (arith, p)

truth_up : (m n : Bool) → UpTo (compare_truths m n) ord.Equal → m ≡ true → n ≡ true
truth_up true true h e = refl
truth_up true false h e = absurd h
truth_up false n h e = absurd cc

truth_down : (m n : Bool) → UpTo ord.Equal (compare_truths m n) → n ≡ true → m ≡ true
truth_down true n h e = refl
truth_down false true h e = absurd h
truth_down false false h e = absurd cc

and_true : (a b : Bool) → a ≡ true → b ≡ true → (a && b) ≡ true
and_true a b h g = rw (h, g) refl

-- the one that is at most the other lies in the bound of the lesser, and the other way round
abbrev pub Least : BoundValue → BoundValue → LocalValue → LocalValue → Type 0
Least a b v w = (UpTo (compare_values v w) ord.Equal → Lies (lesser_bound a b) v) × (UpTo ord.Equal (compare_values v w) → Lies (lesser_bound a b) w)

abbrev pub Greatest : BoundValue → BoundValue → LocalValue → LocalValue → Type 0
Greatest a b v w = (UpTo ord.Equal (compare_values v w) → Lies (greater_bound a b) v) × (UpTo (compare_values v w) ord.Equal → Lies (greater_bound a b) w)

module _ (a b c d : BoundValue) (v v' w w' : LocalValue) (h : Lies (Both a b) (PairValue v v')) (g : Lies (Both c d) (PairValue w w')) where
  least_pairs : Least a c v w → Least b d v' w' → Least (Both a b) (Both c d) (PairValue v v') (PairValue w w')
  least_pairs p q = (λ u. up (compare_values v w) refl p.0 u, λ u. down (compare_values v w) refl p.1 u)
    where
      up : (o : Ordering) → compare_values v w ≡ o → (UpTo o ord.Equal → Lies (lesser_bound a c) v) → UpTo (then_order o (compare_values v' w')) ord.Equal → Lies (lesser_bound (Both a b) (Both c d)) (PairValue v v')
      up ord.Less e r u = let l = less_may a c v w h.0 g.0 (ap is_less e) in (r tt, rw l (second_left (may_greater a c) (may_equal a c) b d (lesser_bound b d) v' h.1))
      up ord.Equal e r u = let l = equal_may a c v w h.0 g.0 e in (r tt, rw l (second_both (may_less a c) (may_greater a c) b d (lesser_bound b d) v' (q.0 u)))
      up ord.Greater e r u = absurd u

      down : (o : Ordering) → compare_values v w ≡ o → (UpTo ord.Equal o → Lies (lesser_bound a c) w) → UpTo ord.Equal (then_order o (compare_values v' w')) → Lies (lesser_bound (Both a b) (Both c d)) (PairValue w w')
      down ord.Less e r u = absurd u
      down ord.Equal e r u = let l = equal_may a c v w h.0 g.0 e in (r tt, rw l (second_both (may_less a c) (may_greater a c) b d (lesser_bound b d) w' (q.1 u)))
      down ord.Greater e r u = let l = greater_may a c v w h.0 g.0 (ap is_greater e) in (r tt, rw l (second_right (may_less a c) (may_equal a c) b d (lesser_bound b d) w' g.1))

  greatest_pairs : Greatest a c v w → Greatest b d v' w' → Greatest (Both a b) (Both c d) (PairValue v v') (PairValue w w')
  greatest_pairs p q = (λ u. down (compare_values v w) refl p.0 u, λ u. up (compare_values v w) refl p.1 u)
    where
      down : (o : Ordering) → compare_values v w ≡ o → (UpTo ord.Equal o → Lies (greater_bound a c) v) → UpTo ord.Equal (then_order o (compare_values v' w')) → Lies (greater_bound (Both a b) (Both c d)) (PairValue v v')
      down ord.Less e r u = absurd u
      down ord.Equal e r u = let l = equal_may a c v w h.0 g.0 e in (r tt, rw l (second_both (may_greater a c) (may_less a c) b d (greater_bound b d) v' (q.0 u)))
      down ord.Greater e r u = let l = greater_may a c v w h.0 g.0 (ap is_greater e) in (r tt, rw l (second_left (may_less a c) (may_equal a c) b d (greater_bound b d) v' h.1))

      up : (o : Ordering) → compare_values v w ≡ o → (UpTo o ord.Equal → Lies (greater_bound a c) w) → UpTo (then_order o (compare_values v' w')) ord.Equal → Lies (greater_bound (Both a b) (Both c d)) (PairValue w w')
      up ord.Less e r u = let l = less_may a c v w h.0 g.0 (ap is_less e) in (r tt, rw l (second_right (may_greater a c) (may_equal a c) b d (greater_bound b d) w' g.1))
      up ord.Equal e r u = let l = equal_may a c v w h.0 g.0 e in (r tt, rw l (second_both (may_greater a c) (may_less a c) b d (greater_bound b d) w' (q.1 u)))
      up ord.Greater e r u = absurd u

least_is : (a b : BoundValue) (v w : LocalValue) → Lies a v → Lies b w → Least a b v w
least_is (Between x y) (Between x' y') (IntValue m) (IntValue n) h g = (
  λ u. let l = nat_up m n u in (omega (arith, h.0), omega (arith, l, h.1, g.1)),
  λ u. let l = nat_down m n u in (omega (arith, g.0), omega (arith, l, h.1, g.1)),
)
least_is (Between x y) (Between x' y') (IntValue m) (BoolValue n) h g = absurd g
least_is (Between x y) (Between x' y') (IntValue m) (PairValue n n') h g = absurd g
least_is (Between x y) (Between x' y') (BoolValue m) w h g = absurd h
least_is (Between x y) (Between x' y') (PairValue m m') w h g = absurd h
least_is (Truths x y) (Truths x' y') (BoolValue m) (BoolValue n) h g = (
  λ u. (and_low x x' m h.0, λ e. and_true y y' (h.1 e) (g.1 (truth_up m n u e))),
  λ u. (and_low' x x' n g.0, λ e. and_true y y' (h.1 (truth_down m n u e)) (g.1 e)),
)
least_is (Truths x y) (Truths x' y') (BoolValue m) (IntValue n) h g = absurd g
least_is (Truths x y) (Truths x' y') (BoolValue m) (PairValue n n') h g = absurd g
least_is (Truths x y) (Truths x' y') (IntValue m) w h g = absurd h
least_is (Truths x y) (Truths x' y') (PairValue m m') w h g = absurd h
least_is (Both a b) (Both c d) (PairValue v v') (PairValue w w') h g = least_pairs a b c d v v' w w' h g (least_is a c v w h.0 g.0) (least_is b d v' w' h.1 g.1)
least_is (Both a b) (Both c d) (PairValue v v') (IntValue n) h g = absurd g
least_is (Both a b) (Both c d) (PairValue v v') (BoolValue n) h g = absurd g
least_is (Both a b) (Both c d) (IntValue m) w h g = absurd h
least_is (Both a b) (Both c d) (BoolValue m) w h g = absurd h
least_is a b v w h g = (λ u. tt, λ u. tt)

or_truth : (x x' m n : Bool) → (x ≡ true → m ≡ true) → (x' ≡ true → n ≡ true) → (n ≡ true → m ≡ true) → (x || x') ≡ true → m ≡ true
or_truth true x' m n p q r e = p refl
or_truth false x' m n p q r e = r (q e)

or_truth' : (x x' m n : Bool) → (x ≡ true → m ≡ true) → (x' ≡ true → n ≡ true) → (m ≡ true → n ≡ true) → (x || x') ≡ true → n ≡ true
or_truth' true x' m n p q r e = r (p refl)
or_truth' false x' m n p q r e = q e

greatest_is : (a b : BoundValue) (v w : LocalValue) → Lies a v → Lies b w → Greatest a b v w
greatest_is (Between x y) (Between x' y') (IntValue m) (IntValue n) h g = (
  λ u. let l = nat_down m n u in (omega (arith, l, h.0, g.0), omega (arith, h.1)),
  λ u. let l = nat_up m n u in (omega (arith, l, h.0, g.0), omega (arith, g.1)),
)
greatest_is (Between x y) (Between x' y') (IntValue m) (BoolValue n) h g = absurd g
greatest_is (Between x y) (Between x' y') (IntValue m) (PairValue n n') h g = absurd g
greatest_is (Between x y) (Between x' y') (BoolValue m) w h g = absurd h
greatest_is (Between x y) (Between x' y') (PairValue m m') w h g = absurd h
greatest_is (Truths x y) (Truths x' y') (BoolValue m) (BoolValue n) h g = (
  λ u. (or_truth x x' m n h.0 g.0 (truth_down m n u), or_high y y' m h.1),
  λ u. (or_truth' x x' m n h.0 g.0 (truth_up m n u), or_high' y y' n g.1),
)
greatest_is (Truths x y) (Truths x' y') (BoolValue m) (IntValue n) h g = absurd g
greatest_is (Truths x y) (Truths x' y') (BoolValue m) (PairValue n n') h g = absurd g
greatest_is (Truths x y) (Truths x' y') (IntValue m) w h g = absurd h
greatest_is (Truths x y) (Truths x' y') (PairValue m m') w h g = absurd h
greatest_is (Both a b) (Both c d) (PairValue v v') (PairValue w w') h g = greatest_pairs a b c d v v' w w' h g (greatest_is a c v w h.0 g.0) (greatest_is b d v' w' h.1 g.1)
greatest_is (Both a b) (Both c d) (PairValue v v') (IntValue n) h g = absurd g
greatest_is (Both a b) (Both c d) (PairValue v v') (BoolValue n) h g = absurd g
greatest_is (Both a b) (Both c d) (IntValue m) w h g = absurd h
greatest_is (Both a b) (Both c d) (BoolValue m) w h g = absurd h
greatest_is a b v w h g = (λ u. tt, λ u. tt)

-- compared the other way round, of any forms
then_flips : (o r : Ordering) → then_order (ordering_reverse o) (ordering_reverse r) ≡ ordering_reverse (then_order o r)
then_flips ord.Less r = refl
then_flips ord.Equal r = refl
then_flips ord.Greater r = refl

any_flips : (v w : LocalValue) → compare_values w v ≡ ordering_reverse (compare_values v w)
any_flips (IntValue a) (IntValue b) = compare_flips (IntValue a) (IntValue b) tt
any_flips (BoolValue a) (BoolValue b) = compare_flips (BoolValue a) (BoolValue b) tt
any_flips (PairValue a b) (PairValue c d) = let p = any_flips a c in let q = any_flips b d in rw (p, q) (then_flips (compare_values a c) (compare_values b d))
any_flips (IntValue a) (BoolValue b) = refl
any_flips (IntValue a) (PairValue c d) = refl
any_flips (BoolValue a) (IntValue b) = refl
any_flips (BoolValue a) (PairValue c d) = refl
any_flips (PairValue a b) (IntValue c) = refl
any_flips (PairValue a b) (BoolValue c) = refl

pub lies_lesser : (a b : BoundValue) (v w : LocalValue) → Lies a v → Lies b w → Lies (lesser_bound a b) (lesser v w)
lies_lesser a b v w h g = by_order (compare_values v w) refl (least_is a b v w h g) (any_flips v w)
  where
    by_order : (o : Ordering) → compare_values v w ≡ o → Least a b v w → compare_values w v ≡ ordering_reverse (compare_values v w) → Lies (lesser_bound a b) (lesser v w)
    by_order ord.Less e l f = let f' = f ∙ ap ordering_reverse e in rw f' (l.0 (rw e tt))
    by_order ord.Equal e l f = let f' = f ∙ ap ordering_reverse e in rw f' (l.0 (rw e tt))
    by_order ord.Greater e l f = let f' = f ∙ ap ordering_reverse e in rw f' (l.1 (rw e tt))

pub lies_greater : (a b : BoundValue) (v w : LocalValue) → Lies a v → Lies b w → Lies (greater_bound a b) (greater v w)
lies_greater a b v w h g = by_order (compare_values v w) refl (greatest_is a b v w h g)
  where
    by_order : (o : Ordering) → compare_values v w ≡ o → Greatest a b v w → Lies (greater_bound a b) (greater v w)
    by_order ord.Less e l = rw e (l.1 (rw e tt))
    by_order ord.Equal e l = rw e (l.0 (rw e tt))
    by_order ord.Greater e l = rw e (l.0 (rw e tt))
