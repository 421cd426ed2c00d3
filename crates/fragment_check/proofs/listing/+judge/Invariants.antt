use Rattle.std.proofs.Common.{◌+◌, ◌-◌, ◌*◌, length, get_or}
use Rattle.fragment_check.proofs.listing.+judge.Given as goal

abbrev pub decreases-judge : goal.decreases-judge
decreases-judge l = 2 * (length l.program.now.nodes - l.place) + 1

abbrev pub decreases-judge_all : goal.decreases-judge_all
decreases-judge_all l = 2 * (length l.program.now.nodes - get_or l.kids.now 0 (length l.program.now.nodes)) + 2
