use Rattle.std.proofs.Common.{sym, ◌∙◌, arith}
use Rattle.value_bounds.proofs.InOrder.{at_the_end, falls_here, goes_on}
use Rattle.value_bounds.proofs.pointwise.numbers_rise.Goals as goal

pub returns-then-entries-position : goal.returns-then-entries-position
returns-then-entries-position c =
    sym (falls_here c.args.entries.now c.loop-position.position _ _ (omega arith) (omega arith)
    c.if-entries-position.true)
    ∙ c.loop-position.invariant

pub loop-position-preserved : goal.loop-position-preserved
loop-position-preserved c =
    goes_on c.args.entries.now c.loop-position.position _ _ (omega arith) (omega arith) c.if-entries-position.false
    ∙ c.loop-position.invariant

pub returns : goal.returns
returns c =
    sym (at_the_end c.args.entries.now c.loop-position.position (omega arith) c.loop-position-test.false)
    ∙ c.loop-position.invariant
