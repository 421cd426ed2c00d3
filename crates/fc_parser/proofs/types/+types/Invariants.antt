use Rattle.std.proofs.Common.{length, ◌+◌, ◌*◌}
use Rattle.fc_parser.proofs.types.+types.Given as goal

abbrev pub decreases-local : goal.decreases-local
decreases-local l = 2 * length l.tokens.now

abbrev pub decreases-pair : goal.decreases-pair
decreases-pair l = 2 * length l.tokens.now + 1
