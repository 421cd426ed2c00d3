use Rattle.std.proofs.Common.{◌+◌, ◌-◌, ◌*◌, length, get_or}
use Rattle.fragment_check.proofs.facts.+gather.Given as goal

abbrev pub decreases-gather : goal.decreases-gather
decreases-gather l = 3 * (length l.program.now.nodes - l.place) + 6

abbrev pub decreases-apply_facts : goal.decreases-apply_facts
decreases-apply_facts l = 3 * (length l.program.now.nodes - l.place) + 5

abbrev pub decreases-mux_facts : goal.decreases-mux_facts
decreases-mux_facts l = 3 * (length l.program.now.nodes - l.place) + 4

abbrev pub decreases-gather_all : goal.decreases-gather_all
decreases-gather_all l = 3 * (length l.program.now.nodes - get_or l.kids.now 0 (length l.program.now.nodes)) + 7
