use Rattle.std.proofs.Common.{◌+◌, ◌-◌, ◌*◌, length, get_or}
use Rattle.device_eval.proofs.evaluation.+eval.Given as goal

abbrev pub decreases-eval : goal.decreases-eval
decreases-eval l = 3 * (length l.context.now.program.now.nodes - l.place) + 2

abbrev pub decreases-eval_nbr : goal.decreases-eval_nbr
decreases-eval_nbr l = 3 * (length l.context.now.program.now.nodes - l.place) + 1

abbrev pub decreases-eval_rep : goal.decreases-eval_rep
decreases-eval_rep l = 3 * (length l.context.now.program.now.nodes - l.place) + 1

abbrev pub decreases-eval_share : goal.decreases-eval_share
decreases-eval_share l = 3 * (length l.context.now.program.now.nodes - l.place) + 1

abbrev pub decreases-eval_if : goal.decreases-eval_if
decreases-eval_if l = 3 * (length l.context.now.program.now.nodes - l.place) + 1

abbrev pub decreases-eval_let : goal.decreases-eval_let
decreases-eval_let l = 3 * (length l.context.now.program.now.nodes - l.place) + 1

abbrev pub decreases-eval_body : goal.decreases-eval_body
decreases-eval_body l = 3 * (length l.context.now.program.now.nodes - l.place) + 3

abbrev pub decreases-eval_apply : goal.decreases-eval_apply
decreases-eval_apply l = 3 * (length l.context.now.program.now.nodes - l.place) + 1

abbrev pub decreases-eval_kids : goal.decreases-eval_kids
decreases-eval_kids l =
    3 * (length l.context.now.program.now.nodes - get_or l.kids.now 0 (length l.context.now.program.now.nodes)) + 3
