use Rattle.walks.specs.Walks.{costs_of}
use Rattle.walks.proofs.Settling.{waits_more, waits_all, devices_more}
use Rattle.walks.proofs.settles.all_waiting.Goals as goal

pub loop-one-preserved : goal.loop-one-preserved
loop-one-preserved c =
    let xs = c.deref-one-items.result.now in
    let i = c.loop-one.one-index in
    record {
      waits = waits_more xs _ _ i c.loop-one-test.true c.in_ok-push.ensures.permutation c.loop-one.invariant.waits;
      devices = devices_more (costs_of c.args.costs.now) xs _ _ i c.deref-one-items.ensures.value c.loop-one-test.true c.in_ok-push.ensures.permutation c.loop-one.invariant.devices;
    }

pub returns-clause-waits : goal.returns-clause-waits
returns-clause-waits c = waits_all c.args.costs.now.start.items c.deref-one-items.result.now _ c.loop-one.one-index c.deref-one-items.ensures.value c.loop-one-test.false c.loop-one.invariant.waits
