-- Bounds of local values: which values are possible.
use Rattle.std.specs.Prelude.{ℕ, Bool, true, false, ◌≡◌, ◌≤◌, ◌&&◌, ◌||◌, not, min, max, nat_eq, nat_le}
use Rattle.std.specs.Ordering.{nat_cmp}
use Rattle.std.specs.declared.cmp.Ordering.{Ordering}
use Rattle.std.specs.declared.cmp.Ordering.TheVariants as ord
use Rattle.fc_values.specs.Types.{LocalType, IntType, BoolType, PairType}
use Rattle.fc_values.specs.Values.{LocalValue, IntValue, BoolValue, PairValue, compare_truths, then_order, is_less}

-- Integers from a least to a greatest; truth values: whether all are true, and whether one may be; pairs by components;
-- and all values of whatever form, which no bound of a typed term is
pub data BoundValue : Type 0 where
  Between : ℕ → ℕ → BoundValue
  Truths : Bool → Bool → BoundValue
  Both : BoundValue → BoundValue → BoundValue
  Unbounded : BoundValue

abbrev pub Lies : BoundValue → LocalValue → Type 0
Lies (Between a b) (IntValue n) = (a ≤ n) × (n ≤ b)
Lies (Between a b) (BoolValue x) = ⊥
Lies (Between a b) (PairValue v w) = ⊥
Lies (Truths a b) (IntValue n) = ⊥
Lies (Truths a b) (BoolValue x) = (a ≡ true → x ≡ true) × (x ≡ true → b ≡ true)
Lies (Truths a b) (PairValue v w) = ⊥
Lies (Both a b) (IntValue n) = ⊥
Lies (Both a b) (BoolValue x) = ⊥
Lies (Both a b) (PairValue v w) = Lies a v × Lies b w
Lies Unbounded v = Unit {0}

-- the bound of one value, and of all values of a type
abbrev pub exactly : LocalValue → BoundValue
exactly (IntValue n) = Between n n
exactly (BoolValue b) = Truths b b
exactly (PairValue v w) = Both (exactly v) (exactly w)

abbrev pub anything : ℕ → LocalType → BoundValue
anything ceiling IntType = Between 0 ceiling
anything ceiling BoolType = Truths false true
anything ceiling (PairType s t) = Both (anything ceiling s) (anything ceiling t)

-- one value is left
abbrev pub is_known : BoundValue → Bool
is_known (Between a b) = nat_eq a b
is_known (Truths a b) = (not a || b) && (not b || a)
is_known (Both a b) = is_known a && is_known b
is_known Unbounded = false

-- the least bound that holds both
abbrev pub either : BoundValue → BoundValue → BoundValue
either (Between a b) (Between c d) = Between (min a c) (max b d)
either (Truths a b) (Truths c d) = Truths (a && c) (b || d)
either (Both a b) (Both c d) = Both (either a c) (either b d)
either _ _ = Unbounded

-- how the least value of one bound compares with the greatest of another, and the greatest with the least
abbrev pub low_order : BoundValue → BoundValue → Ordering
low_order (Between a b) (Between c d) = nat_cmp a d
low_order (Truths a b) (Truths c d) = compare_truths a d
low_order (Both a b) (Both c d) = then_order (low_order a c) (low_order b d)
low_order _ _ = ord.Less

abbrev pub high_order : BoundValue → BoundValue → Ordering
high_order (Between a b) (Between c d) = nat_cmp b c
high_order (Truths a b) (Truths c d) = compare_truths b c
high_order (Both a b) (Both c d) = then_order (high_order a c) (high_order b d)
high_order _ _ = ord.Greater

abbrev pub is_greater : Ordering → Bool
is_greater ord.Less = false
is_greater ord.Equal = false
is_greater ord.Greater = true

-- a value of the first may be less, is less, may be greater than one of the second
abbrev pub may_less : BoundValue → BoundValue → Bool
may_less a b = is_less (low_order a b)

abbrev pub must_less : BoundValue → BoundValue → Bool
must_less a b = is_less (high_order a b)

abbrev pub may_greater : BoundValue → BoundValue → Bool
may_greater a b = is_greater (high_order a b)

abbrev pub may_equal : BoundValue → BoundValue → Bool
may_equal (Between a b) (Between c d) = nat_le a d && nat_le c b
may_equal (Truths a b) (Truths c d) = (not a || d) && (not c || b)
may_equal (Both a b) (Both c d) = may_equal a c && may_equal b d
may_equal _ _ = true

-- both are known and the same
abbrev pub must_equal : BoundValue → BoundValue → Bool
must_equal (Between a b) (Between c d) = nat_eq a b && nat_eq c d && nat_eq a c
must_equal (Truths false false) (Truths false false) = true
must_equal (Truths true true) (Truths true true) = true
must_equal (Both a b) (Both c d) = must_equal a c && must_equal b d
must_equal _ _ = false

-- The second component of the lesser, or greater, of two pairs: that of the first where the first may be chosen by the
-- first components, that of the second alike, and that of both where the first components may be equal.
abbrev pub second : Bool → Bool → Bool → BoundValue → BoundValue → BoundValue → BoundValue
second true true true x y z = either (either x y) z
second true true false x y z = either x y
second true false true x y z = either x z
second true false false x y z = x
second false true true x y z = either y z
second false true false x y z = y
second false false e x y z = z

abbrev pub lesser_bound : BoundValue → BoundValue → BoundValue
lesser_bound (Between a b) (Between c d) = Between (min a c) (min b d)
lesser_bound (Truths a b) (Truths c d) = Truths (a && c) (b && d)
lesser_bound (Both a b) (Both c d) =
    Both (lesser_bound a c) (second (may_less a c) (may_greater a c) (may_equal a c) b d (lesser_bound b d))
lesser_bound _ _ = Unbounded

abbrev pub greater_bound : BoundValue → BoundValue → BoundValue
greater_bound (Between a b) (Between c d) = Between (max a c) (max b d)
greater_bound (Truths a b) (Truths c d) = Truths (a || c) (b || d)
greater_bound (Both a b) (Both c d) =
    Both (greater_bound a c) (second (may_greater a c) (may_less a c) (may_equal a c) b d (greater_bound b d))
greater_bound _ _ = Unbounded

-- the value that is left in a bound that is known
abbrev pub value_left : BoundValue → LocalValue
value_left (Between a b) = IntValue a
value_left (Truths a b) = BoolValue a
value_left (Both a b) = PairValue (value_left a) (value_left b)
value_left Unbounded = IntValue 0
