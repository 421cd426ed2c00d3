use Rattle.std.proofs.Common.{◌+◌, ◌-◌, ◌*◌, drop, length, map}
use Rattle.value_trees.specs.KeptItems.{kept_of}
use Rattle.fc_values.specs.Exports.{slots_of}
use Rattle.value_trees.proofs.FillSteps.{KidsSoFar}
use Rattle.value_trees.proofs.reading.+fill.Given as goal

abbrev pub decreases-fill : goal.decreases-fill
decreases-fill l = 2 * (length l.visit.now.program.now.nodes - l.visit.now.place) + 1

abbrev pub decreases-fill_if : goal.decreases-fill_if
decreases-fill_if l = 2 * (length l.visit.now.program.now.nodes - l.visit.now.place)

abbrev pub decreases-fill_kids : goal.decreases-fill_kids
decreases-fill_kids l = 2 * (length l.visit.now.program.now.nodes - l.visit.now.place)

abbrev pub invariant-fill_kids-loop-kid : goal.invariant-fill_kids-loop-kid
invariant-fill_kids-loop-kid l = KidsSoFar l.visit.program.now.nodes l.visit.place l.visit.taken l.visit.program.now.declared.ceiling l.kids (drop l.kid-index l.kids) (map kept_of l.list) (map kept_of l.left) (slots_of l.fn.slots.items) (slots_of l.slots.items)
