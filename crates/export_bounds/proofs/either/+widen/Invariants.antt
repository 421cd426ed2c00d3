use Rattle.std.proofs.Common.{◌+◌, ◌-◌, ◌*◌, drop, length}
use Rattle.export_bounds.proofs.WidenAt.{KidsSoFar}
use Rattle.export_bounds.proofs.either.+widen.Given as goal

abbrev pub decreases-widen_at : goal.decreases-widen_at
decreases-widen_at l = 2 * (length l.visit.now.program.now.nodes - l.visit.now.place) + 1

abbrev pub decreases-widen_if : goal.decreases-widen_if
decreases-widen_if l = 2 * (length l.visit.now.program.now.nodes - l.visit.now.place)

abbrev pub decreases-widen_kids : goal.decreases-widen_kids
decreases-widen_kids l = 2 * (length l.visit.now.program.now.nodes - l.visit.now.place)

abbrev pub invariant-widen_kids-loop-kid : goal.invariant-widen_kids-loop-kid
invariant-widen_kids-loop-kid l = KidsSoFar l.visit.side l.visit.program.now.nodes l.visit.place l.kids
    (drop l.kid-index l.kids) l.at l.next l.firsts l.fn.seconds l.seconds
