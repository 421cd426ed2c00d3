use Rattle.std.proofs.Common.{length}
use Rattle.value_trees.proofs.fitting.+near_fit.Given as goal

abbrev pub decreases-near_fit : goal.decreases-near_fit
decreases-near_fit l = length l.near.now
