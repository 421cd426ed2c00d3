use Rattle.std.proofs.Common.{length}
use Rattle.closed_terms.proofs.matching.+are_lowered.Given as goal

abbrev pub decreases-are_lowered : goal.decreases-are_lowered
decreases-are_lowered l = length l.places.now
