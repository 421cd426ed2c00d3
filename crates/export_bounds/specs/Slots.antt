-- The bound of one export out of its slots, as code has them.
use Rattle.std.specs.Prelude.{Bool, true, false, List, map}
use Rattle.fc_values.specs.Values.{LocalValue}
use Rattle.fc_values.specs.Exports.{SlotValue}
use Rattle.value_bounds.specs.BoundValues.{BoundValue, Unbounded, exactly}

-- of a value that isn't kept nothing is said
abbrev pub exact_if : Bool → LocalValue → BoundValue
exact_if true v = exactly v
exact_if false v = Unbounded

abbrev pub exact_slot : SlotValue → BoundValue
exact_slot s = exact_if s.0 s.1

abbrev pub exact_slots : List SlotValue → List BoundValue
exact_slots xs = map exact_slot xs
