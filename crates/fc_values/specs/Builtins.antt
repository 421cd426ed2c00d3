-- The value of each builtin, over whole numbers that are then cut. None where a builtin has no value for its arguments.
use Rattle.std.specs.Prelude.{ℕ, Bool, true, false, ◌+◌, ◌-◌, ◌*◌, List, [], ◌∷◌, min, nat_eq, not, ◌&&◌, ◌||◌, if◌then◌else◌, Option, Some, None, option_map, option_and_then}
use Rattle.fc_values.specs.declared.builtins.Builtin.{Builtin}
use Rattle.fc_values.specs.declared.builtins.Builtin.TheVariants as op
use Rattle.fc_values.specs.Values.{LocalValue, IntValue, BoolValue, PairValue, compare_values, is_less, is_equal, lesser, greater}
use Rattle.fc_values.specs.Fields.{Entries, AnyValue, ValueLocal, ValueField, devices, value_at, rises}

-- a function of integers, truth values or any values, on arguments of exactly that number and form
abbrev pub of_two_integers : (ℕ → ℕ → LocalValue) → List LocalValue → Option LocalValue
of_two_integers f (IntValue a ∷ IntValue b ∷ []) = Some (f a b)
of_two_integers f _ = None

abbrev pub of_three_integers : (ℕ → ℕ → ℕ → LocalValue) → List LocalValue → Option LocalValue
of_three_integers f (IntValue a ∷ IntValue b ∷ IntValue c ∷ []) = Some (f a b c)
of_three_integers f _ = None

abbrev pub of_truth : (Bool → LocalValue) → List LocalValue → Option LocalValue
of_truth f (BoolValue a ∷ []) = Some (f a)
of_truth f _ = None

abbrev pub of_two_truths : (Bool → Bool → LocalValue) → List LocalValue → Option LocalValue
of_two_truths f (BoolValue a ∷ BoolValue b ∷ []) = Some (f a b)
of_two_truths f _ = None

abbrev pub of_two : (LocalValue → LocalValue → LocalValue) → List LocalValue → Option LocalValue
of_two f (a ∷ b ∷ []) = Some (f a b)
of_two f _ = None

abbrev pub of_pair : (LocalValue → LocalValue → LocalValue) → List LocalValue → Option LocalValue
of_pair f (PairValue a b ∷ []) = Some (f a b)
of_pair f _ = None

abbrev pub of_choice : List LocalValue → Option LocalValue
of_choice (BoolValue c ∷ a ∷ b ∷ []) = Some (if c then a else b)
of_choice _ = None

-- the value of an operator on local values, with the ceiling
abbrev pub local_value : Builtin → ℕ → List LocalValue → Option LocalValue
local_value op.Add ceiling xs = of_two_integers (λ a b. IntValue (min ceiling (a + b))) xs
local_value op.Sub ceiling xs = of_two_integers (λ a b. IntValue (a - b)) xs
local_value op.Mul ceiling xs = of_two_integers (λ a b. IntValue (min ceiling (a * b))) xs
local_value op.Min ceiling xs = of_two lesser xs
local_value op.Max ceiling xs = of_two greater xs
local_value op.Less ceiling xs = of_two (λ a b. BoolValue (is_less (compare_values a b))) xs
local_value op.Equal ceiling xs = of_two (λ a b. BoolValue (is_equal (compare_values a b))) xs
local_value op.And ceiling xs = of_two_truths (λ a b. BoolValue (a && b)) xs
local_value op.Or ceiling xs = of_two_truths (λ a b. BoolValue (a || b)) xs
local_value op.Not ceiling xs = of_truth (λ a. BoolValue (not a)) xs
local_value op.Mux ceiling xs = of_choice xs
local_value op.Pair ceiling xs = of_two PairValue xs
local_value op.Fst ceiling xs = of_pair (λ a b. a) xs
local_value op.Snd ceiling xs = of_pair (λ a b. b) xs
local_value op.Rise ceiling xs = of_three_integers (λ a b s. IntValue (min a (b + s))) xs
local_value op.MinHoodLoc ceiling xs = None
local_value op.MaxHoodLoc ceiling xs = None
local_value op.SumHood ceiling xs = None
local_value op.AnyHood ceiling xs = None
local_value op.AllHood ceiling xs = None

-- the builtins that fold the values of a field
abbrev pub is_hood : Builtin → Bool
is_hood op.MinHoodLoc = true
is_hood op.MaxHoodLoc = true
is_hood op.SumHood = true
is_hood op.AnyHood = true
is_hood op.AllHood = true
is_hood _ = false

-- the values of a field at the devices other than the firing one
abbrev pub others : ℕ → Entries → List LocalValue
others device [] = []
others device (e ∷ es) = if nat_eq e.0 device then others device es else e.1 ∷ others device es

-- the least, and the greatest, of a value and some others
abbrev pub least_of : LocalValue → List LocalValue → LocalValue
least_of best [] = best
least_of best (v ∷ vs) = least_of (lesser best v) vs

abbrev pub greatest_of : LocalValue → List LocalValue → LocalValue
greatest_of best [] = best
greatest_of best (v ∷ vs) = greatest_of (greater best v) vs

-- the sum of some integers
abbrev pub add_integer : LocalValue → Option ℕ → Option ℕ
add_integer (IntValue n) (Some sum) = Some (n + sum)
add_integer _ _ = None

abbrev pub sum_of : List LocalValue → Option ℕ
sum_of [] = Some 0
sum_of (v ∷ vs) = add_integer v (sum_of vs)

-- whether any, and whether each, of some truth values is true
abbrev pub join_truths : (Bool → Bool → Bool) → LocalValue → Option Bool → Option Bool
join_truths f (BoolValue b) (Some c) = Some (f b c)
join_truths f _ _ = None

abbrev pub any_of : List LocalValue → Option Bool
any_of [] = Some false
any_of (v ∷ vs) = join_truths (λ a b. a || b) v (any_of vs)

abbrev pub all_of : List LocalValue → Option Bool
all_of [] = Some true
all_of (v ∷ vs) = join_truths (λ a b. a && b) v (all_of vs)

-- a fold of a field and a local value, and of a field alone
abbrev pub of_field_and_local : (Entries → LocalValue → LocalValue) → List AnyValue → Option LocalValue
of_field_and_local f (ValueField es ∷ ValueLocal l ∷ []) = Some (f es l)
of_field_and_local f _ = None

abbrev pub of_field : (Entries → Option LocalValue) → List AnyValue → Option LocalValue
of_field f (ValueField es ∷ []) = f es
of_field f _ = None

-- the value of a hood at a device
abbrev pub hood_value : Builtin → ℕ → ℕ → List AnyValue → Option LocalValue
hood_value op.MinHoodLoc ceiling device xs = of_field_and_local (λ es l. least_of l (others device es)) xs
hood_value op.MaxHoodLoc ceiling device xs = of_field_and_local (λ es l. greatest_of l (others device es)) xs
hood_value op.SumHood ceiling device xs =
    of_field (λ es. option_map (λ sum. IntValue (min ceiling sum)) (sum_of (others device es))) xs
hood_value op.AnyHood ceiling device xs = of_field (λ es. option_map BoolValue (any_of (others device es))) xs
hood_value op.AllHood ceiling device xs = of_field (λ es. option_map BoolValue (all_of (others device es))) xs
hood_value _ ceiling device xs = None

-- the devices of the first field among some values
abbrev pub field_devices : List AnyValue → Option (List ℕ)
field_devices [] = None
field_devices (ValueLocal v ∷ xs) = field_devices xs
field_devices (ValueField es ∷ xs) = Some (devices es)

abbrev pub same_devices : List ℕ → List ℕ → Bool
same_devices [] [] = true
same_devices (d ∷ ds) (e ∷ es) = nat_eq d e && same_devices ds es
same_devices _ _ = false

-- each field among some values is over exactly these devices
abbrev pub are_over : List ℕ → List AnyValue → Bool
are_over ds [] = true
are_over ds (ValueLocal v ∷ xs) = are_over ds xs
are_over ds (ValueField es ∷ xs) = same_devices (devices es) ds && are_over ds xs

-- an argument at a device; a local value stands for itself everywhere
abbrev pub argument_at : ℕ → AnyValue → Option LocalValue
argument_at d (ValueLocal v) = Some v
argument_at d (ValueField es) = value_at d es

abbrev pub put_before : {A : Type 0} → Option A → Option (List A) → Option (List A)
put_before (Some x) (Some xs) = Some (x ∷ xs)
put_before _ _ = None

abbrev pub arguments_at : ℕ → List AnyValue → Option (List LocalValue)
arguments_at d [] = Some []
arguments_at d (x ∷ xs) = put_before (argument_at d x) (arguments_at d xs)

-- a field over these devices, whose value at each is given
abbrev pub field_over : (ℕ → Option LocalValue) → List ℕ → Option Entries
field_over f [] = Some []
field_over f (d ∷ ds) = put_before (option_map (λ v. (d, v)) (f d)) (field_over f ds)

-- An operator at each device of the fields among its arguments, which are over one set of devices. Without a field it
-- is applied once: the 0 is no device, since a local value stands for itself everywhere.
abbrev pub pointwise_over : (List LocalValue → Option LocalValue) → Option (List ℕ) → List AnyValue → Option AnyValue
pointwise_over f None xs = option_map ValueLocal (option_and_then f (arguments_at 0 xs))
pointwise_over f (Some ds) xs = if rises ds && are_over ds xs
    then option_map ValueField (field_over (λ d. option_and_then f (arguments_at d xs)) ds) else None

abbrev pub pointwise : (List LocalValue → Option LocalValue) → List AnyValue → Option AnyValue
pointwise f xs = pointwise_over f (field_devices xs) xs

-- the value of a builtin at a device
abbrev pub builtin_value : Builtin → ℕ → ℕ → List AnyValue → Option AnyValue
builtin_value builtin ceiling device xs =
    if is_hood builtin then option_map ValueLocal (hood_value builtin ceiling device xs)
    else pointwise (local_value builtin ceiling) xs
