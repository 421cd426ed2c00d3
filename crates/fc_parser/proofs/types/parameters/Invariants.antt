use Rattle.std.proofs.Common.{length}
use Rattle.fc_parser.specs.Expressions.{kinds_of}
use Rattle.fc_parser.specs.Types.{parameters_of, parameters_read}
use Rattle.fc_parser.proofs.Loops.{MoreLeft}
use Rattle.fc_parser.proofs.types.parameters.Given as goal

abbrev pub invariant-more : goal.invariant-more
invariant-more l = MoreLeft (parameters_read (kinds_of l.fn.tokens)) (parameters_of l.params) (kinds_of l.rest)

abbrev pub decreases-more : goal.decreases-more
decreases-more l = length l.rest
