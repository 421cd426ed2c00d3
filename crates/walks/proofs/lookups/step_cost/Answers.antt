use Rattle.std.proofs.Common.{get_or}
use Rattle.walks.specs.declared.types.WalkStep.{WalkStep}
use Rattle.walks.proofs.Spans.{step_named, none_leads}
use Rattle.walks.proofs.lookups.step_cost.Goals as goal

pub returns-then-step-to-clause-cost : goal.returns-then-step-to-clause-cost
returns-then-step-to-clause-cost c =
    let none : WalkStep = record { from = 0; to = 0; cost = 0 } in
    let part = c.steps_from-step-items.result.now in
    let i = c.loop-step.step-index in
    step_named c.args.costs.now.steps.items (get_or part i none) c.args.from c.args.to
    (c.steps_from-step-items.ensures.from i none c.loop-step-test.true) c.if-step-to.true (c.steps_from-step-items.ensures.steps i none c.loop-step-test.true)

pub returns-clause-none : goal.returns-clause-none
returns-clause-none c = λ k h.
    none_leads c.steps_from-step-items.result.now c.args.from c.args.to k c.loop-step.step-index c.loop-step-test.false c.loop-step.invariant
    (c.steps_from-step-items.ensures.all c.args.to k h)
