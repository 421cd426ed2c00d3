use Rattle.std.proofs.Common.{length}
use Rattle.unfold.proofs.scopes.+lookup_argument.Given as goal

abbrev pub decreases-lookup_argument : goal.decreases-lookup_argument
decreases-lookup_argument l = length l.given.now
