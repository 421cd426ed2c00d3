use Rattle.std.proofs.Common.{length}
use Rattle.fc_parser.proofs.Turns.{LimitsAlike}
use Rattle.fc_parser.proofs.limits.judge_limits.Given as goal

abbrev pub invariant-pieces : goal.invariant-pieces
invariant-pieces l = LimitsAlike l.tokens l.rest l.declaration

abbrev pub decreases-pieces : goal.decreases-pieces
decreases-pieces l = length l.rest
