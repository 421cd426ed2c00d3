use Rattle.std.proofs.Common.{◌+◌, ◌-◌, ◌*◌, length, get_or}
use Rattle.round_bound.proofs.walk.+walk.Given as goal

abbrev pub decreases-walk : goal.decreases-walk
decreases-walk l = 3 * (length l.context.now.program.now.nodes - l.place) + 5

abbrev pub decreases-below : goal.decreases-below
decreases-below l = 3 * (length l.context.now.program.now.nodes - l.place) + 4

abbrev pub decreases-below_nbr : goal.decreases-below_nbr
decreases-below_nbr l = 3 * (length l.context.now.program.now.nodes - l.place) + 3

abbrev pub decreases-below_if : goal.decreases-below_if
decreases-below_if l = 3 * (length l.context.now.program.now.nodes - l.place) + 3

abbrev pub decreases-below_let : goal.decreases-below_let
decreases-below_let l = 3 * (length l.context.now.program.now.nodes - l.place) + 3

abbrev pub decreases-below_evolving : goal.decreases-below_evolving
decreases-below_evolving l = 3 * (length l.context.now.program.now.nodes - l.place) + 3

abbrev pub decreases-walk_all : goal.decreases-walk_all
decreases-walk_all l = 3 * (length l.context.now.program.now.nodes - get_or l.kids.now 0 (length l.context.now.program.now.nodes)) + 6
