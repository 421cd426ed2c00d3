use Rattle.std.proofs.Common.{◌+◌, ◌-◌, ◌*◌, drop, length}
use Rattle.interval_facts.specs.Picks.{ranges_in}
use Rattle.interval_facts.proofs.Gathered.{KidsSoFar}
use Rattle.interval_facts.proofs.gathering.+gather.Given as goal

abbrev pub decreases-gather : goal.decreases-gather
decreases-gather l = 2 * (length l.program.now.nodes - l.place) + 1

abbrev pub decreases-gather_kids : goal.decreases-gather_kids
decreases-gather_kids l = 2 * (length l.program.now.nodes - l.place)

abbrev pub invariant-gather_kids-loop-kid : goal.invariant-gather_kids-loop-kid
invariant-gather_kids-loop-kid l = KidsSoFar l.program l.place (drop l.kid-index l.kids) (ranges_in l.fn.list.items) (ranges_in l.list.items)
