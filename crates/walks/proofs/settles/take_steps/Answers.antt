use Rattle.std.proofs.Common.{get_or, refl, arith}
use Rattle.std.specs.BinaryHeap.{heap_items}
use Rattle.walks.specs.declared.types.WalkStep.{WalkStep}
use Rattle.walks.specs.Walks.{costs_of}
use Rattle.walks.proofs.Settling.{part_begins, part_ends, part_more, to_within, from_within, taken_costs, taken_devices, taken_covered, taken_itself, taken_left}
use Rattle.walks.proofs.settles.take_steps.Goals as goal

pub loop-step-init : goal.loop-step-init
loop-step-init c = record {
  values = c.requires.values;
  waiting = c.requires.waiting;
  covered = part_begins (costs_of c.args.costs.now) c.args.values.now (heap_items c.args.waiting.now) c.steps_from-step-items.result.now c.args.device c.steps_from-step-items.ensures.all c.requires.covered;
  less = omega arith;
}

pub take_step-requires-clause-from : goal.take_step-requires-clause-from
take_step-requires-clause-from c =
    let none : WalkStep = record { from = 0; to = 0; cost = 0 } in
    let i = c.loop-step.step-index in
    from_within (costs_of c.args.costs.now) c.requires.costs (get_or c.steps_from-step-items.result.now i none) (c.steps_from-step-items.ensures.steps i none c.loop-step-test.true) c.loop-step.values c.loop-step.invariant.values

pub take_step-requires-clause-to : goal.take_step-requires-clause-to
take_step-requires-clause-to c =
    let none : WalkStep = record { from = 0; to = 0; cost = 0 } in
    let i = c.loop-step.step-index in
    to_within (costs_of c.args.costs.now) c.requires.costs (get_or c.steps_from-step-items.result.now i none) (c.steps_from-step-items.ensures.steps i none c.loop-step-test.true) c.loop-step.values c.loop-step.invariant.values

pub loop-step-preserved : goal.loop-step-preserved
loop-step-preserved c =
    let none : WalkStep = record { from = 0; to = 0; cost = 0 } in
    let i = c.loop-step.step-index in
    let part = c.steps_from-step-items.result.now in
    let C = costs_of c.args.costs.now in
    let s = get_or part i none in
    let in_steps = c.steps_from-step-items.ensures.steps i none c.loop-step-test.true in
    let vs = c.loop-step.values in
    let hs = heap_items c.loop-step.waiting in
    let us = c.take_step.new.values in
    let ws = heap_items c.take_step.new.waiting in
    let was = c.loop-step.invariant in
    let taken = c.in_ok-take_step.ensures in
    let fall = taken_left C c.requires.costs s in_steps vs was.values hs us ws taken in
    record {
      values = taken_costs C c.requires.costs s in_steps vs was.values hs us ws taken;
      waiting = taken_devices C c.requires.costs s in_steps vs was.values hs us ws was.waiting taken;
      covered = part_more C vs hs us ws part i s none c.loop-step-test.true refl (taken_covered C c.requires.costs s in_steps vs was.values hs us ws taken)
          (taken_itself C c.requires.costs s in_steps vs was.values hs us ws taken) was.covered;
      less = omega (arith, was.less);
    }

pub returns-clause-covered : goal.returns-clause-covered
returns-clause-covered c =
    part_ends (costs_of c.args.costs.now) c.loop-step.values (heap_items c.loop-step.waiting) c.steps_from-step-items.result.now c.loop-step.step-index c.loop-step-test.false c.loop-step.invariant.covered
