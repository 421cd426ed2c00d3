-- Local values and their order.
use Rattle.std.specs.Prelude.{ℕ, Bool, true, false, ◌≤◌, if◌then◌else◌}
use Rattle.std.specs.Ordering.{nat_cmp}
use Rattle.std.specs.declared.cmp.Ordering.{Ordering}
use Rattle.std.specs.declared.cmp.Ordering.TheVariants as ord
use Rattle.fc_values.specs.declared.values.Local.{Local}
use Rattle.fc_values.specs.declared.values.Local.TheVariants as loc
use Rattle.fc_values.specs.Types.{LocalType, IntType, BoolType, PairType}

-- a local value: a whole number, a truth value, or a pair
pub data LocalValue : Type 0 where
  IntValue : ℕ → LocalValue
  BoolValue : Bool → LocalValue
  PairValue : LocalValue → LocalValue → LocalValue

-- the value that one of the code stands for
abbrev pub local_of : Local → LocalValue
local_of (loc.Int n) = IntValue n
local_of (loc.Bool b) = BoolValue b
local_of (loc.Pair' p a q b) = PairValue (local_of a) (local_of b)

-- the value has the type, and each integer in it is at most the ceiling
abbrev pub Fits : ℕ → LocalType → LocalValue → Type 0
Fits ceiling IntType (IntValue n) = n ≤ ceiling
Fits ceiling BoolType (BoolValue b) = Unit {0}
Fits ceiling (PairType s t) (PairValue a b) = Fits ceiling s a × Fits ceiling t b
Fits ceiling _ _ = ⊥

-- the type of a value, by its form alone
abbrev pub form_of : LocalValue → LocalType
form_of (IntValue n) = IntType
form_of (BoolValue b) = BoolType
form_of (PairValue a b) = PairType (form_of a) (form_of b)

-- two values of one form
abbrev pub SameForm : LocalValue → LocalValue → Type 0
SameForm (IntValue a) (IntValue b) = Unit {0}
SameForm (BoolValue a) (BoolValue b) = Unit {0}
SameForm (PairValue a b) (PairValue c d) = SameForm a c × SameForm b d
SameForm _ _ = ⊥

-- false comes before true
abbrev pub compare_truths : Bool → Bool → Ordering
compare_truths false false = ord.Equal
compare_truths false true = ord.Less
compare_truths true false = ord.Greater
compare_truths true true = ord.Equal

-- the first order, or the second where the first says equal
abbrev pub then_order : Ordering → Ordering → Ordering
then_order ord.Less o = ord.Less
then_order ord.Equal o = o
then_order ord.Greater o = ord.Greater

-- The order of the values of one type: integers by size, false before true, pairs by the first and then the second
-- component. Values of different forms have no order, and count as equal.
abbrev pub compare_values : LocalValue → LocalValue → Ordering
compare_values (IntValue a) (IntValue b) = nat_cmp a b
compare_values (BoolValue a) (BoolValue b) = compare_truths a b
compare_values (PairValue a b) (PairValue c d) = then_order (compare_values a c) (compare_values b d)
compare_values _ _ = ord.Equal

abbrev pub is_less : Ordering → Bool
is_less ord.Less = true
is_less ord.Equal = false
is_less ord.Greater = false

abbrev pub is_equal : Ordering → Bool
is_equal ord.Less = false
is_equal ord.Equal = true
is_equal ord.Greater = false

abbrev pub lesser : LocalValue → LocalValue → LocalValue
lesser a b = if is_less (compare_values b a) then b else a

abbrev pub greater : LocalValue → LocalValue → LocalValue
greater a b = if is_less (compare_values a b) then b else a
