use Rattle.std.proofs.Common.{min, ◌+◌, ◌*◌, ap, ◌∙◌, arith}
use Rattle.fc_lexer.proofs.Numbers.{next_number}
use Rattle.fc_lexer.proofs.kinds.number.Goals as goal

pub loop-digit-preserved : goal.loop-digit-preserved
loop-digit-preserved c = (
  c.min-value.ensures
      ∙ ap (λ d. min (c.loop-digit.value * 10 + d) 1000001) c.from.ensures
      ∙ next_number c.args.digits.now c.loop-digit.digit-index c.loop-digit.value c.loop-digit-test.true c.loop-digit.invariant.0,
  omega arith,
)
