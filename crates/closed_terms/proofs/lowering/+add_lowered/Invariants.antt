use Rattle.std.proofs.Common.{length}
use Rattle.closed_terms.proofs.lowering.+add_lowered.Given as goal

abbrev pub decreases-add_lowered : goal.decreases-add_lowered
decreases-add_lowered l = length l.places.now
