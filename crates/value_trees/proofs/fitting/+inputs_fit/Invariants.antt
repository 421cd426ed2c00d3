use Rattle.std.proofs.Common.{length}
use Rattle.value_trees.proofs.fitting.+inputs_fit.Given as goal

abbrev pub decreases-inputs_fit : goal.decreases-inputs_fit
decreases-inputs_fit l = length l.declared.now
