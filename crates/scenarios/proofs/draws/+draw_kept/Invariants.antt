use Rattle.std.proofs.Common.{◌+◌, ◌-◌, ◌*◌, drop, length}
use Rattle.scenarios.proofs.DrawSteps.{KidsDrawn}
use Rattle.scenarios.proofs.draws.+draw_kept.Given as goal

abbrev pub decreases-draw_kept : goal.decreases-draw_kept
decreases-draw_kept l = 2 * (length l.program.now.nodes - l.place) + 1

abbrev pub decreases-draw_branch : goal.decreases-draw_branch
decreases-draw_branch l = 2 * (length l.program.now.nodes - l.place)

abbrev pub decreases-draw_kids : goal.decreases-draw_kids
decreases-draw_kids l = 2 * (length l.program.now.nodes - l.place)

abbrev pub invariant-draw_kids-loop-kid : goal.invariant-draw_kids-loop-kid
invariant-draw_kids-loop-kid l = KidsDrawn l.program.nodes l.place l.program.declared.ceiling l.kids (drop l.kid-index l.kids) l.fn.words l.words l.fn.list.items l.list.items
