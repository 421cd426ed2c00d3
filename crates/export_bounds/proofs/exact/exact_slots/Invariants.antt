use Rattle.std.proofs.Common.{◌≡◌, ◌++◌, drop}
use Rattle.fc_values.specs.Exports.{slots_of}
use Rattle.value_bounds.specs.References.{local_bounds_in}
use Rattle.export_bounds.specs.Slots.{exact_slots}
use Rattle.export_bounds.proofs.exact.exact_slots.Given as goal

abbrev pub invariant-loop-slot : goal.invariant-loop-slot
invariant-loop-slot l =
    local_bounds_in l.bounds.items ++ exact_slots (slots_of (drop l.slot-index l.slots))
    ≡ exact_slots (slots_of l.slots)
