use Rattle.std.proofs.Common.{length}
use Rattle.stable_field.proofs.terms.+find.Given as goal

abbrev pub decreases-find : goal.decreases-find
decreases-find l = length l.known.now
