use Rattle.std.proofs.Common.{length}
use Rattle.settle_rounds.proofs.settling.+greatest_round.Given as goal

abbrev pub decreases-greatest_round : goal.decreases-greatest_round
decreases-greatest_round l = length l.settled.now
