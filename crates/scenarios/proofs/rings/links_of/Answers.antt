use Rattle.std.proofs.Common.{refl}
use Rattle.scenarios.proofs.RingLists.{links_first, link_next}
use Rattle.scenarios.proofs.rings.links_of.Goals as goal

pub loop-first-init : goal.loop-first-init
loop-first-init c = links_first c.args.count c.push-2.new.self.items c.requires (rw (c.in_ok-push-2.ensures.items, c.in_ok-push.ensures.items, c.in_ok-links.ensures.items, c.one_link.ensures, c.one_link-2.ensures) refl)

pub loop-first-preserved : goal.loop-first-preserved
loop-first-preserved c =
    link_next c.args.count c.loop-first.first c.loop-first.links.items c.push-in-loop-first.new.self.items _ c.loop-first-test.true c.loop-first.invariant c.one_link-in-loop-first.ensures c.in_ok-push-3.ensures.items
