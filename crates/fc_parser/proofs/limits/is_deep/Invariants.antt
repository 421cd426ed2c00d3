use Rattle.fc_parser.proofs.Depths.{DeepAlike}
use Rattle.fc_parser.proofs.limits.is_deep.Given as goal

abbrev pub invariant-loop-token : goal.invariant-loop-token
invariant-loop-token l = DeepAlike l.tokens l.token-index l.depth
