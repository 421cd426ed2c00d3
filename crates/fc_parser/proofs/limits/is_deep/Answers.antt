use Rattle.std.proofs.Common.{refl}
use Rattle.fc_parser.proofs.Depths.{deep_found}
use Rattle.fc_parser.proofs.limits.is_deep.Goals as goal

pub returns-then-depth-gt-MOST_BRACKETS : goal.returns-then-depth-gt-MOST_BRACKETS
returns-then-depth-gt-MOST_BRACKETS c = (
  λ _. deep_found c.args.tokens.now c.loop-token.token-index c.loop-token.depth c.open_after-depth.result c.token-item.result c.loop-token.invariant c.loop-token-test.true c.token-item.is c.open_after-depth.ensures c.if-depth-gt-MOST_BRACKETS.true,
  λ _. refl,
)
