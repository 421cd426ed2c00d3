-- Leading integers: an integer leads itself, and a pair is led by what leads its first component.
use Rattle.std.specs.Prelude.{ℕ, Bool, true, false, ◌≡◌, ◌≤◌, ◌⊎◌}
use Rattle.fc_values.specs.Types.{LocalType, IntType, BoolType, PairType}
use Rattle.fc_values.specs.Values.{LocalValue, IntValue, BoolValue, PairValue}
use Rattle.interval_facts.specs.Ranges.{RangeValue, IntRange, PairRange}

-- the leading integer of a value, 0 where it has none
abbrev pub lead : LocalValue → ℕ
lead (IntValue n) = n
lead (BoolValue b) = 0
lead (PairValue a b) = lead a

-- two values that are equal, or both led by at least b
abbrev pub Close : ℕ → LocalValue → LocalValue → Type 0
Close b v w = (v ≡ w) ⊎ ((b ≤ lead v) × (b ≤ lead w))

abbrev pub is_integer : LocalType → Bool
is_integer IntType = true
is_integer _ = false

-- the types that stages speak of: integers, and pairs whose first component is an integer
abbrev pub leads : LocalType → Bool
leads IntType = true
leads (PairType s t) = is_integer s
leads BoolType = false

-- the least and the greatest of a range of integers; 0 for another range
abbrev pub least_alone : RangeValue → ℕ
least_alone (IntRange least greatest) = least
least_alone _ = 0

abbrev pub greatest_alone : RangeValue → ℕ
greatest_alone (IntRange least greatest) = greatest
greatest_alone _ = 0

-- the same, where a range of pairs has those of its first component
abbrev pub least_integer : RangeValue → ℕ
least_integer (PairRange r s) = least_alone r
least_integer r = least_alone r

abbrev pub greatest_integer : RangeValue → ℕ
greatest_integer (PairRange r s) = greatest_alone r
greatest_integer r = greatest_alone r
