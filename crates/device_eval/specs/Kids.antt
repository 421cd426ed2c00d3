-- The values of a builtin's arguments as columns, one after another. A field has a row for each of its devices, and a
-- local value stands in each of so many rows.
use Rattle.std.specs.Prelude.{ℕ, ◌≡◌, ◌<◌, ◌+◌, ◌*◌, List, [], ◌∷◌, length, Some, slice_index_or}
use Rattle.fc_values.specs.declared.builtins.Builtin.{Builtin}
use Rattle.fc_values.specs.Types.{ValueType, TypeLocal, TypeField, leaves}
use Rattle.fc_values.specs.BuiltinTypes.{inner}
use Rattle.fc_values.specs.Builtins.{builtin_value}
use Rattle.fc_values.specs.Fields.{AnyValue, ValueLocal, ValueField, FitEachOver, Rises}
use Rattle.fc_nodes.specs.declared.nodes.Node.{Node}
use Rattle.fc_nodes.specs.Terms.{term_at, term_type}
use Rattle.value_columns.specs.Columns.{row_in, entries_in}
use Rattle.scope_columns.specs.Words.{SameBelow, value_in, words_for}

-- the types of the nodes at some places
abbrev pub kid_types : List Node → List ℕ → List ValueType
kid_types ns [] = []
kid_types ns (k ∷ ks) = term_type (term_at ns k) ∷ kid_types ns ks

-- each of these places is one of a node, where there are so many nodes
abbrev pub AreWithin : ℕ → List ℕ → Type 0
AreWithin n [] = Unit {0}
AreWithin n (k ∷ ks) = (k < n) × AreWithin n ks

-- how many rows a value of a type has, where a local value has so many, and a field is over n devices
abbrev pub rows_for : ValueType → ℕ → ℕ → ℕ
rows_for (TypeLocal t) rows n = rows
rows_for (TypeField t) rows n = n

-- how many words values of some types take together
abbrev pub words_of_all : List ValueType → ℕ → ℕ → ℕ
words_of_all [] rows n = 0
words_of_all (t ∷ ts) rows n = rows_for t rows n * leaves (inner t) + words_of_all ts rows n

-- a value stands at a place: a local value in each of so many rows, a field over these devices
abbrev pub StandsIn : List ℕ → List ℕ → ℕ → ℕ → ValueType → AnyValue → Type 0
StandsIn ws ds rows at (TypeLocal t) v = (i : ℕ) → i < rows → v ≡ ValueLocal (row_in ws t rows at i)
StandsIn ws ds rows at (TypeField t) v = v ≡ ValueField (entries_in ws t (length ds) at 0 ds)

-- values stand one after another, the first of them at a place
abbrev pub StandIn : List ℕ → List ℕ → ℕ → ℕ → List ValueType → List AnyValue → Type 0
StandIn ws ds rows at [] [] = Unit {0}
StandIn ws ds rows at (t ∷ ts) (v ∷ vs) =
    StandsIn ws ds rows at t v × StandIn ws ds rows (at + rows_for t rows (length ds) * leaves (inner t)) ts vs
StandIn ws ds rows at _ _ = ⊥

-- a value of a type, a field over any number of devices, is the last of the words, from a place on
pub record EndsWith (t : ValueType) (at : ℕ) (ws : List ℕ) : Type 0 where
  pub devices : ℕ
  pub long : length ws ≡ at + words_for t devices

-- a value that was the last of the words has its rows: a local value so many, a field those that it had
pub record Filled (t : ValueType) (rows at : ℕ) (old new : List ℕ) : Type 0 where
  pub kept : SameBelow at old new
  pub long : (n : ℕ) → length old ≡ at + words_for t n → length new ≡ at + rows_for t rows n * leaves (inner t)
  pub stands : (ds : List ℕ) → StandsIn new ds rows at t (value_in old t ds at)

-- The value of a builtin stands where its arguments stood, whatever the devices of their fields are: the firing device
-- is the one in the own row.
pub record Applied (builtin : Builtin) (ceiling : ℕ) (ts : List ValueType) (t : ValueType) (devices own at : ℕ)
    (old new : List ℕ) : Type 0 where
  pub kept : SameBelow at old new
  pub long : length new ≡ at + words_for t devices
  pub value : (device : ℕ) (ds : List ℕ) (vs : List AnyValue) → length ds ≡ devices → Rises ds
      → device ≡ slice_index_or ds own 0 → FitEachOver ceiling ds ts vs
      → StandIn old ds (rows_for t 1 devices) at ts vs
      → builtin_value builtin ceiling device vs ≡ Some (value_in new t ds at)
