use Rattle.std.proofs.Common.{◌≡◌, ◌++◌, drop, map}
use Rattle.fc_values.specs.Values.{local_of}
use Rattle.fc_values.specs.Exports.{slots_of}
use Rattle.value_trees.specs.KeptLists.{kept_only}
use Rattle.value_trees.proofs.exports.kept_slots.Given as goal

abbrev pub invariant-loop-slot : goal.invariant-loop-slot
invariant-loop-slot l = map local_of l.list.items ++ kept_only (slots_of (drop l.slot-index l.slots)) ≡ kept_only (slots_of l.slots)
