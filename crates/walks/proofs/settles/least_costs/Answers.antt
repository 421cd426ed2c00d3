use Rattle.std.proofs.Common.{◌≡◌, ◌<◌, length, arith, subst, sym, ◌∙◌}
use Rattle.std.specs.BinaryHeap.{heap_items}
use Rattle.std.proofs.lemmas.List.{get_or_default}
use Rattle.std.specs.List.{All}
use Rattle.walks.specs.Walks.{costs_of}
use Rattle.walks.specs.Tables.{IsCovered}
use Rattle.walks.proofs.Settling.{popped, popped_stale, popped_devices, starts_are_costs, all_wait, settled_least}
use Rattle.walks.proofs.settles.least_costs.Goals as goal

pub loop-value-init : goal.loop-value-init
loop-value-init c =
    let C = costs_of c.args.costs.now in
    let vs = c.in_ok-values.values.items in
    record {
      values = starts_are_costs C c.requires vs c.in_ok-values.ensures;
      waiting = c.in_ok-waiting.ensures.devices;
      covered = all_wait C c.requires vs (heap_items c.in_ok-waiting.waiting) c.in_ok-values.ensures c.in_ok-waiting.ensures.waits;
    }

pub index-requires : goal.index-requires
index-requires c =
    let C = costs_of c.args.costs.now in
    let r = c.in-Some.field-0 in
    let dev = popped_devices C (heap_items c.loop-value.waiting) (heap_items c.pop.new.self) r.0.0 r.0.1 c.in-Some.ensures.permutation c.loop-value.invariant.waiting in
    let whole = c.loop-value.values.ok in
    let k : r.0.1 < length c.loop-value.values.items = c.loop-value.invariant.values.within r.0.1 dev.0 in
    omega (arith, k, whole)

pub take_steps-requires-clause-device : goal.take_steps-requires-clause-device
take_steps-requires-clause-device c =
    let r = c.in-Some.field-0 in
    (popped_devices (costs_of c.args.costs.now) (heap_items c.loop-value.waiting) (heap_items c.pop.new.self) r.0.0 r.0.1 c.in-Some.ensures.permutation c.loop-value.invariant.waiting).0

pub take_steps-requires-clause-covered : goal.take_steps-requires-clause-covered
take_steps-requires-clause-covered c =
    let r = c.in-Some.field-0 in
    popped (costs_of c.args.costs.now) c.deref_mut.result.now (heap_items c.loop-value.waiting) (heap_items c.pop.new.self) r.0.0 r.0.1 c.in-Some.ensures.permutation
    (subst (λ vs. All (IsCovered (costs_of c.args.costs.now) vs (heap_items c.loop-value.waiting)) c.args.costs.now.steps.items) (sym c.deref_mut.ensures.value) c.loop-value.invariant.covered)

pub take_steps-requires-clause-waiting : goal.take_steps-requires-clause-waiting
take_steps-requires-clause-waiting c =
    let r = c.in-Some.field-0 in
    (popped_devices (costs_of c.args.costs.now) (heap_items c.loop-value.waiting) (heap_items c.pop.new.self) r.0.0 r.0.1 c.in-Some.ensures.permutation c.loop-value.invariant.waiting).1

pub loop-value-preserved : goal.loop-value-preserved
loop-value-preserved c =
    let C = costs_of c.args.costs.now in
    let r = c.in-Some.field-0 in
    let vs = c.loop-value.values.items in
    record {
      values = c.loop-value.invariant.values;
      waiting = (popped_devices C (heap_items c.loop-value.waiting) (heap_items c.pop.new.self) r.0.0 r.0.1 c.in-Some.ensures.permutation c.loop-value.invariant.waiting).1;
      covered = popped_stale C vs (heap_items c.loop-value.waiting) (heap_items c.pop.new.self) r.0.0 r.0.1 c.in-Some.ensures.permutation
          (λ e. c.if-index-value.false (c.index.ensures ∙ get_or_default vs r.0.1 c.index.result.now 0 (c.loop-value.invariant.values.within r.0.1 (popped_devices C (heap_items c.loop-value.waiting) (heap_items c.pop.new.self) r.0.0 r.0.1 c.in-Some.ensures.permutation c.loop-value.invariant.waiting).0) ∙ e)) c.loop-value.invariant.covered;
    }

pub returns : goal.returns
returns c =
    let none = c.in_default.ensures.none in
    let whole = c.loop-value.waiting.data.ok in
    let empty : length (heap_items c.loop-value.waiting) ≡ 0 = omega (arith, none, whole) in
    settled_least (costs_of c.args.costs.now) c.requires c.loop-value.values.items (heap_items c.loop-value.waiting) empty c.loop-value.invariant.values c.loop-value.invariant.covered
