use Rattle.std.proofs.Common.{◌+◌, ◌-◌, ◌*◌, length, get_or}
use Rattle.bound_firing.proofs.evaluation.+eval.Given as goal

abbrev pub decreases-eval : goal.decreases-eval
decreases-eval l = 6 * (length l.context.now.program.now.nodes - l.place) + 2

abbrev pub decreases-eval_apply : goal.decreases-eval_apply
decreases-eval_apply l = 6 * (length l.context.now.program.now.nodes - l.place) + 1

abbrev pub decreases-eval_nbr : goal.decreases-eval_nbr
decreases-eval_nbr l = 6 * (length l.context.now.program.now.nodes - l.place) + 1

abbrev pub decreases-eval_evolve : goal.decreases-eval_evolve
decreases-eval_evolve l = 6 * (length l.context.now.program.now.nodes - l.place) + 1

abbrev pub decreases-eval_if : goal.decreases-eval_if
decreases-eval_if l = 6 * (length l.context.now.program.now.nodes - l.place) + 1

abbrev pub decreases-eval_branch : goal.decreases-eval_branch
decreases-eval_branch l = 6 * (length l.context.now.program.now.nodes - l.place) + 3

abbrev pub decreases-eval_let : goal.decreases-eval_let
decreases-eval_let l = 6 * (length l.context.now.program.now.nodes - l.place) + 1

abbrev pub decreases-eval_kids : goal.decreases-eval_kids
decreases-eval_kids l = 6 * (length l.context.now.program.now.nodes - get_or l.kids.now 0
    (length l.context.now.program.now.nodes)) + 3

abbrev pub decreases-eval_argument : goal.decreases-eval_argument
decreases-eval_argument l = 6 * (length l.context.now.program.now.nodes - l.place) + 3

abbrev pub decreases-eval_one : goal.decreases-eval_one
decreases-eval_one l = 6 * (length l.context.now.program.now.nodes - l.kid) + 4

abbrev pub decreases-eval_two : goal.decreases-eval_two
decreases-eval_two l = 6 * (length l.context.now.program.now.nodes - l.first) + 4

abbrev pub decreases-eval_three : goal.decreases-eval_three
decreases-eval_three l = 6 * (length l.context.now.program.now.nodes - l.first) + 4

abbrev pub decreases-eval_more : goal.decreases-eval_more
decreases-eval_more l = 6 * (length l.context.now.program.now.nodes - get_or l.kids.now 0
    (length l.context.now.program.now.nodes)) + 4
