use Rattle.std.proofs.Common.{length}
use Rattle.bound_firing.proofs.seating.+are_seated.Given as goal

abbrev pub decreases-are_seated : goal.decreases-are_seated
decreases-are_seated l = length l.entries.now
