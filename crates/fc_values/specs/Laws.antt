-- The laws of values, fields and builtins.
use Rattle.std.specs.Prelude.{ℕ, true, false, ◌≡◌, ◌⊎◌, ◌↔◌, ◌||◌, List, [], ◌∷◌, Some, None, nat_eq, if◌then◌else◌}
use Rattle.std.specs.List.{All, Contains}
use Rattle.std.specs.declared.cmp.Ordering.TheVariants as ord
use Rattle.fc_values.specs.declared.builtins.Builtin.{Builtin}
use Rattle.fc_values.specs.declared.builtins.Builtin.TheVariants as op
use Rattle.fc_values.specs.Types.{LocalType, ValueType}
use Rattle.fc_values.specs.Values.{LocalValue, BoolValue, SameForm, form_of, compare_values}
use Rattle.fc_values.specs.Fields.{Entries, AnyValue, ValueLocal, ValueField, FitsOver, FitEachOver, Rises, devices, is_in, restricted, rises, value_at, with_entry}
use Rattle.fc_values.specs.Builtins.{are_over, builtin_value, field_devices, greatest_of, is_hood, least_of, local_value}
use Rattle.fc_values.specs.BuiltinTypes.{HasRule}
use Rattle.fc_values.specs.Positions.{value_over}

-- Where the arguments of a builtin fit the types that a rule of it names, the fields among them over the same devices,
-- it has a value, and this fits the type that the rule gives, over those devices.
abbrev pub BuiltinHasValue : Type 0
BuiltinHasValue =
    (builtin : Builtin) (ceiling device : ℕ) (ds : List ℕ) (ts : List ValueType) (t : ValueType) (vs : List AnyValue) →
    HasRule builtin ts t → rises ds ≡ true → FitEachOver ceiling ds ts vs →
    (v : AnyValue) × (builtin_value builtin ceiling device vs ≡ Some v) × FitsOver ceiling ds t v

-- ---- the order of values

-- a value is at most another: it comes before it, or it is the same
abbrev pub AtMost : LocalValue → LocalValue → Type 0
AtMost v w = (compare_values v w ≡ ord.Less) ⊎ (v ≡ w)

-- one of some values that is at most each of them
pub record IsLeast (vs : List LocalValue) (v : LocalValue) : Type 0 where
  pub one : Contains vs v
  pub least : All (λ w. AtMost v w) vs

-- one of some values that is at least each of them
pub record IsGreatest (vs : List LocalValue) (v : LocalValue) : Type 0 where
  pub one : Contains vs v
  pub greatest : All (λ w. AtMost w v) vs

-- the least and the greatest of values of one form are what their names say
abbrev pub LeastIsLeast : Type 0
LeastIsLeast = (t : LocalType) (v : LocalValue) (vs : List LocalValue) → All (λ w. form_of w ≡ t) (v ∷ vs)
    → IsLeast (v ∷ vs) (least_of v vs)

abbrev pub GreatestIsGreatest : Type 0
GreatestIsGreatest =
    (t : LocalType) (v : LocalValue) (vs : List LocalValue) → All (λ w. form_of w ≡ t) (v ∷ vs)
    → IsGreatest (v ∷ vs) (greatest_of v vs)

-- `==` of two values of one form says that they are equal
abbrev pub EqualSaysSame : Type 0
EqualSaysSame =
    (ceiling : ℕ) (v w : LocalValue) → SameForm v w → (local_value op.Equal ceiling (v ∷ w ∷ [])
    ≡ Some (BoolValue true)) ↔ (v ≡ w)

-- ---- a field, read at a device

-- a new entry is the value at its device, and leaves those at other devices as they were
abbrev pub ReadsWithEntry : Type 0
ReadsWithEntry =
    (d : ℕ) (v : LocalValue) (es : Entries) → is_in d (devices es) ≡ false →
    (e : ℕ) → value_at e (with_entry d v es) ≡ (if nat_eq d e then Some v else value_at e es)

-- a restricted field has the value of the whole one at the devices that stay, and none at others
abbrev pub ReadsRestricted : Type 0
ReadsRestricted =
    (d : ℕ) (ns : List ℕ) (es fs : Entries) → restricted d ns (ValueField es) ≡ ValueField fs →
    (e : ℕ) → value_at e fs ≡ (if nat_eq e d || is_in e ns then value_at e es else None)

-- a field that an operator makes: it is over the devices of the fields among the arguments, and at each of them its
-- value is the operator's of the arguments there
pub record IsPointwise (builtin : Builtin) (ceiling : ℕ) (xs : List AnyValue) (fs : Entries) : Type 0 where
  pub over : field_devices xs ≡ Some (devices fs)
  pub each : are_over (devices fs) xs ≡ true
  pub rising : Rises (devices fs)
  pub value : (d : ℕ) → value_at d fs ≡ (if is_in d (devices fs) then value_over builtin ceiling xs d else None)

abbrev pub ReadsPointwise : Type 0
ReadsPointwise =
    (builtin : Builtin) (ceiling device : ℕ) (xs : List AnyValue) (fs : Entries) → is_hood builtin ≡ false →
    builtin_value builtin ceiling device xs ≡ Some (ValueField fs) → IsPointwise builtin ceiling xs fs

-- where an operator gives a local value, no argument is a field, and at any device the arguments give that value
abbrev pub ReadsLocal : Type 0
ReadsLocal =
    (builtin : Builtin) (ceiling device : ℕ) (xs : List AnyValue) (v : LocalValue) → is_hood builtin ≡ false →
    builtin_value builtin ceiling device xs ≡ Some (ValueLocal v) →
    (field_devices xs ≡ None) × ((d : ℕ) → value_over builtin ceiling xs d ≡ Some v)
