-- Fields, and values of any type.
use Rattle.std.specs.Prelude.{ℕ, Bool, true, false, ◌≡◌, ◌<◌, List, [], ◌∷◌, map, filter, nat_eq, nat_lt, ◌&&◌, ◌||◌, if◌then◌else◌, Option, Some, None}
use Rattle.fc_values.specs.declared.values.Local.{Local}
use Rattle.fc_values.specs.declared.values.FieldVal.{FieldVal}
use Rattle.fc_values.specs.declared.values.Value.{Value}
use Rattle.fc_values.specs.declared.values.Value.TheVariants as value
use Rattle.fc_values.specs.Types.{LocalType, ValueType, TypeLocal, TypeField}
use Rattle.fc_values.specs.Values.{LocalValue, local_of, Fits}

-- a field: a finite map from devices to local values, as the list of its entries in rising order of devices
abbrev pub Entries : Type 0
Entries = List (ℕ × LocalValue)

-- a value: a local value or a field
pub data AnyValue : Type 0 where
  ValueLocal : LocalValue → AnyValue
  ValueField : Entries → AnyValue

abbrev pub entry_of : ℕ × Local → ℕ × LocalValue
entry_of e = (e.0, local_of e.1)

abbrev pub entries_of : FieldVal → Entries
entries_of f = map entry_of f.entries.items

abbrev pub value_of : Value → AnyValue
value_of (value.Local v) = ValueLocal (local_of v)
value_of (value.Field f) = ValueField (entries_of f)

abbrev pub values_of : List Value → List AnyValue
values_of xs = map value_of xs

-- the devices of a field
abbrev pub device_of : ℕ × LocalValue → ℕ
device_of e = e.0

abbrev pub devices : Entries → List ℕ
devices es = map device_of es

-- the value at a device
abbrev pub value_at : ℕ → Entries → Option LocalValue
value_at d [] = None
value_at d (e ∷ es) = if nat_eq e.0 d then Some e.1 else value_at d es

-- one more entry, in rising order of devices
abbrev pub with_entry : ℕ → LocalValue → Entries → Entries
with_entry d v [] = (d, v) ∷ []
with_entry d v (e ∷ es) = if nat_lt d e.0 then ((d, v) ∷ e ∷ es) else (e ∷ with_entry d v es)

-- whether a number is one of these
abbrev pub is_in : ℕ → List ℕ → Bool
is_in d [] = false
is_in d (n ∷ ns) = nat_eq d n || is_in d ns

-- one more number, in its rising place
abbrev pub with_number : ℕ → List ℕ → List ℕ
with_number d [] = d ∷ []
with_number d (n ∷ ns) = if nat_lt d n then (d ∷ n ∷ ns) else (n ∷ with_number d ns)

-- a field restricted to a device and its aligned neighbours, who have these numbers; a local value stays as it is
abbrev pub restricted : ℕ → List ℕ → AnyValue → AnyValue
restricted d ns (ValueLocal v) = ValueLocal v
restricted d ns (ValueField es) = ValueField (filter (λ (e : ℕ × LocalValue). nat_eq e.0 d || is_in e.0 ns) es)

-- the numbers rise
abbrev pub Rises : List ℕ → Type 0
Rises [] = Unit {0}
Rises (d ∷ []) = Unit {0}
Rises (d ∷ e ∷ ds) = (d < e) × Rises (e ∷ ds)

abbrev pub rises : List ℕ → Bool
rises [] = true
rises (d ∷ []) = true
rises (d ∷ e ∷ ds) = nat_lt d e && rises (e ∷ ds)

-- each value of a field fits
abbrev pub AllFit : ℕ → LocalType → Entries → Type 0
AllFit ceiling t [] = Unit {0}
AllFit ceiling t (e ∷ es) = Fits ceiling t e.1 × AllFit ceiling t es

-- a value fits a type; a field is over exactly these devices
abbrev pub FitsOver : ℕ → List ℕ → ValueType → AnyValue → Type 0
FitsOver ceiling ds (TypeLocal t) (ValueLocal v) = Fits ceiling t v
FitsOver ceiling ds (TypeField t) (ValueField es) = (devices es ≡ ds) × AllFit ceiling t es
FitsOver ceiling ds _ _ = ⊥

abbrev pub FitEachOver : ℕ → List ℕ → List ValueType → List AnyValue → Type 0
FitEachOver ceiling ds [] [] = Unit {0}
FitEachOver ceiling ds (t ∷ ts) (v ∷ vs) = FitsOver ceiling ds t v × FitEachOver ceiling ds ts vs
FitEachOver ceiling ds _ _ = ⊥
