use Rattle.std.proofs.Common.{◌≡◌, drop, ◌++◌}
use Rattle.fc_values.specs.Exports.{slots_of}
use Rattle.fc_values.proofs.exports.copy_slots.Given as goal

abbrev pub invariant-loop-slot : goal.invariant-loop-slot
invariant-loop-slot l = slots_of l.list.items ++ slots_of (drop l.slot-index l.slots.list.items) ≡ slots_of l.slots.list.items
