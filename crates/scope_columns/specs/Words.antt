-- How the values of nodes stand among the words of an evaluation.
use Rattle.std.specs.Prelude.{ℕ, suc, ◌≡◌, ◌<◌, ◌+◌, ◌*◌, List, [], ◌∷◌, length, map}
use Rattle.std.specs.Prelude.{Bool, ◌||◌, nat_eq, nat_lt, if◌then◌else◌}
use Rattle.fc_values.specs.Types.{LocalType, ValueType, TypeLocal, TypeField, leaves}
use Rattle.fc_values.specs.Values.{LocalValue, form_of}
use Rattle.fc_values.specs.Exports.{slot_at}
use Rattle.alignment.specs.Slots.{NearSlots}
use Rattle.value_columns.specs.LocalWords.{words_of}
use Rattle.fc_values.specs.Fields.{Entries, AnyValue, ValueLocal, ValueField, is_in}
use Rattle.value_columns.specs.Columns.{word_in, local_in, entries_in}

-- how many words a value of a type takes, where fields are over so many devices
abbrev pub words_for : ValueType → ℕ → ℕ
words_for (TypeLocal t) n = leaves t
words_for (TypeField t) n = n * leaves t

-- the value of a type that stands at a place: a field is over these devices
abbrev pub value_in : List ℕ → ValueType → List ℕ → ℕ → AnyValue
value_in ws (TypeLocal t) ds at = ValueLocal (local_in ws t at)
value_in ws (TypeField t) ds at = ValueField (entries_in ws t (length ds) at 0 ds)

-- the words below a place stay
pub record SameBelow (n : ℕ) (old new : List ℕ) : Type 0 where
  pub same : (p : ℕ) → p < n → word_in new p ≡ word_in old p

-- a value of a type was added behind the words
pub record Added (t : ValueType) (ds : List ℕ) (old new : List ℕ) : Type 0 where
  pub kept : SameBelow (length old) old new
  pub long : length new ≡ length old + words_for t (length ds)

-- the row of a device in a field over it and these neighbours: how many of them come before it
abbrev pub row_of : ℕ → List ℕ → ℕ
row_of d [] = 0
row_of d (n ∷ ns) = if nat_lt d n then 0 else suc (row_of d ns)

-- each value of a field has the form of a type
abbrev pub AllForm : LocalType → Entries → Type 0
AllForm t [] = Unit {0}
AllForm t (e ∷ es) = (form_of e.1 ≡ t) × AllForm t es

-- the weights of some neighbours
abbrev pub weights_of : {A : Type 0} → List (ℕ × ℕ × A) → List ℕ
weights_of ns = map (λ n. n.1) ns

-- whether a device is the given one, or one of its aligned neighbours
abbrev pub stays : ℕ → List ℕ → ℕ → Bool
stays d ns e = nat_eq e d || is_in e ns

-- the rows from one on of the devices that pass a test
abbrev pub kept_rows : (ℕ → Bool) → ℕ → List ℕ → List ℕ
kept_rows q i [] = []
kept_rows q i (d ∷ ds) = if q d then i ∷ kept_rows q (i + 1) ds else kept_rows q (i + 1) ds

-- a leaf of a value
abbrev pub leaf_word : ℕ → LocalValue → ℕ
leaf_word leaf v = word_in (words_of v) leaf

-- a leaf of what each of some neighbours has in a slot
abbrev pub slot_column : ℕ → ℕ → List NearSlots → List ℕ
slot_column leaf k ns = map (λ (n : NearSlots). leaf_word leaf (slot_at k n.2).1) ns

-- the values of a field, one after another
abbrev pub values_in : Entries → List LocalValue
values_in es = map (λ (e : ℕ × LocalValue). e.1) es
