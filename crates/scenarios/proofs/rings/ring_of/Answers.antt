use Rattle.std.proofs.Common.{refl}
use Rattle.scenarios.proofs.RingLists.{device_next}
use Rattle.scenarios.proofs.rings.ring_of.Goals as goal

pub loop-id-preserved : goal.loop-id-preserved
loop-id-preserved c =
    device_next c.args.source c.args.count c.loop-id.id c.loop-id.devices.items c.push-in-loop-id.new.self.items _ c.loop-id-test.true c.loop-id.invariant (rw (c.in_ok-push.ensures.items, c.in_ok-inputs.ensures.items) refl) c.in_ok-push-2.ensures.items
