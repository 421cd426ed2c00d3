-- What JSON values say: whole numbers, local values, and the members of objects.
use Rattle.std.specs.Prelude.{ℕ, suc, Bool, false, min, List, Option, Some, None, option_map, option_and_then, nat_eq}
use Rattle.std.specs.Prelude.{nat_le, if◌then◌else◌}
use Rattle.serde_json.specs.Data.{Data, null, boolean, number, string, array, object, Items, no_items, item, Members}
use Rattle.serde_json.specs.Data.{no_members, member}
use Rattle.serde_json.specs.Find.{get, as_number, as_u64, as_object}
use Rattle.fc_values.specs.declared.limits.TheConstants.{GREATEST}
use Rattle.fc_values.specs.Values.{LocalValue, IntValue, BoolValue, PairValue}

-- a whole number: a JSON number without sign, fraction or exponent
abbrev pub whole : Data → Option ℕ
whole d = option_and_then as_u64 (as_number d)

-- a whole number that a program may have
abbrev pub if_small : ℕ → Option ℕ
if_small n = if nat_le n GREATEST then Some n else None

abbrev pub small : Data → Option ℕ
small d = option_and_then if_small (whole d)

-- A whole number as a local value. Integers and ranges of programs end far below, so one past 32 bits fits nowhere, and
-- the greatest of 32 bits may stand for it.
abbrev pub integer_value : ℕ → LocalValue
integer_value n = IntValue (min n 4294967295)

abbrev pub both_some : {A B : Type 0} → Option A → Option B → Option (A × B)
both_some (Some a) (Some b) = Some (a, b)
both_some _ _ = None

abbrev pub pair_value : LocalValue × LocalValue → LocalValue
pair_value p = PairValue p.0 p.1

-- a local value: a whole number, a truth value, or an array of two values
abbrev pub value_of : Data → Option LocalValue
value_of null = None
value_of (boolean b) = Some (BoolValue b)
value_of (number n) = option_map integer_value (as_u64 n)
value_of (string s) = None
value_of (array no_items) = None
value_of (array (item a no_items)) = None
value_of (array (item a (item b no_items))) = option_map pair_value (both_some (value_of a) (value_of b))
value_of (array (item a (item b (item c ds)))) = None
value_of (object ms) = None

abbrev pub count_items : Items → ℕ
count_items no_items = 0
count_items (item d ds) = suc (count_items ds)

abbrev pub count_members : Members → ℕ
count_members no_members = 0
count_members (member k d ms) = suc (count_members ms)

-- the number of an object's members; an object has each name once
abbrev pub size_of : Data → Option ℕ
size_of d = option_map count_members (as_object d)

abbrev pub is_exactly : ℕ → Option ℕ → Bool
is_exactly n None = false
is_exactly n (Some m) = nat_eq m n

abbrev pub has_size : ℕ → Data → Bool
has_size n d = is_exactly n (size_of d)

-- the members of two, three or four names, of an object that has exactly these
abbrev pub two_members : List ℕ → List ℕ → Data → Option (Data × Data)
two_members a b d = if has_size 2 d then both_some (get a d) (get b d) else None

abbrev pub three_members : List ℕ → List ℕ → List ℕ → Data → Option (Data × (Data × Data))
three_members a b c d = if has_size 3 d then both_some (get a d) (both_some (get b d) (get c d)) else None

abbrev pub four_members : List ℕ → List ℕ → List ℕ → List ℕ → Data → Option ((Data × Data) × (Data × Data))
four_members a b c e d =
    if has_size 4 d then both_some (both_some (get a d) (get b d)) (both_some (get c d) (get e d)) else None
