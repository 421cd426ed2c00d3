-- What may happen while a network runs, at any time and any number of times.
use Rattle.std.specs.Prelude.{ℕ, List}
use Rattle.changes.specs.declared.types.Range.{Range}
use Rattle.changes.specs.declared.types.Possible.{Possible}
use Rattle.changes.specs.declared.types.Weights.{Weights}

abbrev pub range : ℕ → ℕ → Range
range a b = record { least = a; greatest = b }

-- A line: an input of a device is set to one of some values, two devices are linked with one of some weights, the link
-- of two devices goes, a device leaves and comes back, or a device comes that isn't in the scene. An input is named by
-- its number.
pub data ChangeValue : Type 0 where
  SetChange : ℕ → ℕ → Possible → ChangeValue
  LinkChange : ℕ → ℕ → Weights → ChangeValue
  UnlinkChange : ℕ → ℕ → ChangeValue
  LeaveChange : ℕ → ChangeValue
  JoinChange : ℕ → List Possible → ChangeValue
