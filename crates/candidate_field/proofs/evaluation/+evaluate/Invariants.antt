use Rattle.std.proofs.Common.{◌+◌, ◌*◌}
use Rattle.candidate_field.proofs.evaluation.+evaluate.Given as goal

abbrev pub decreases-evaluate : goal.decreases-evaluate
decreases-evaluate l = 2 * l.fuel

abbrev pub decreases-evolve : goal.decreases-evolve
decreases-evolve l = 2 * l.fuel + 1

abbrev pub decreases-branch : goal.decreases-branch
decreases-branch l = 2 * l.fuel + 1
