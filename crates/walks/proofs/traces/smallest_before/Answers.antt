use Rattle.std.proofs.Common.{get_or, subst}
use Rattle.std.proofs.lemmas.List.{get_or_default}
use Rattle.std.proofs.lemmas.List.Elements.{AllWithin-more}
use Rattle.walks.specs.declared.types.WalkStep.{WalkStep}
use Rattle.walks.specs.Walks.{costs_of, LeadsTo}
use Rattle.walks.proofs.Settling.{fits_of}
use Rattle.walks.proofs.Parents.{smallest_first, none_leads_to}
use Rattle.walks.proofs.traces.smallest_before.Goals as goal

pub leads_to-requires-clause-neighbour : goal.leads_to-requires-clause-neighbour
leads_to-requires-clause-neighbour c =
    let none : WalkStep = record { from = 0; to = 0; cost = 0 } in
    let i = c.loop-step.step-index in
    (fits_of (costs_of c.args.costs.now) c.requires.costs (get_or c.steps_from-step-items.result.now i none) (c.steps_from-step-items.ensures.steps i none c.loop-step-test.true)).to

pub returns-then-leads_to-clause-least : goal.returns-then-leads_to-clause-least
returns-then-leads_to-clause-least c = λ m le.
    let none : WalkStep = record { from = 0; to = 0; cost = 0 } in
    smallest_first (costs_of c.args.costs.now) c.requires.costs c.steps_from-step-items.result.now c.args.device (get_or c.args.values.now c.args.device 0) c.loop-step.step-index none
    c.steps_from-step-items.ensures.all c.steps_from-step-items.ensures.order c.steps_from-step-items.ensures.from c.loop-step-test.true c.loop-step.invariant m le

pub loop-step-preserved : goal.loop-step-preserved
loop-step-preserved c =
    let none : WalkStep = record { from = 0; to = 0; cost = 0 } in
    let i = c.loop-step.step-index in
    let part = c.steps_from-step-items.result.now in
    let C = costs_of c.args.costs.now in
    let v = get_or c.args.values.now c.args.device 0 in
    AllWithin-more (λ (s : WalkStep). LeadsTo C s.to c.args.device v → ⊥) part 0 i c.loop-step.invariant
    (λ d. subst (λ (s : WalkStep). LeadsTo C s.to c.args.device v → ⊥) (get_or_default part i none d c.loop-step-test.true) (c.leads_to.ensures.not c.if-leads_to.false))

pub returns-clause-none : goal.returns-clause-none
returns-clause-none c =
    none_leads_to (costs_of c.args.costs.now) c.requires.costs c.steps_from-step-items.result.now c.args.device (get_or c.args.values.now c.args.device 0) c.loop-step.step-index
    c.steps_from-step-items.ensures.all c.loop-step-test.false c.loop-step.invariant
