use Rattle.std.proofs.Common.{arith, sym}
use Rattle.changes.proofs.Adding.{devices_joined, count_joined, devices_kept, count_kept}
use Rattle.changes.proofs.hands.Hand.add_device.Goals as goal

pub returns-then-has : goal.returns-then-has
returns-then-has g c = let old = sym c.if-has.ensures in λ ps. record {
  devices = devices_kept c.args.network.now g.told c.args.device ps _ c.requires.devices old;
  count = count_kept c.args.network.now g.told c.args.device ps _ c.requires.devices _ old c.requires.count;
  pairs = c.requires.pairs;
  partners = c.requires.partners;
  few = λ d. let k = c.requires.few d in omega arith;
}

pub returns : goal.returns
returns g c = let new = sym c.if-has.ensures in λ ps. record {
  devices = devices_joined c.args.network.now g.told c.args.device ps _ c.requires.devices _ c.in_ok-insert.ensures.updates.0;
  count = count_joined c.args.network.now g.told c.args.device ps _ c.requires.devices _ _ _ new c.in_ok-insert.ensures.added c.in_ok-insert.ensures.len c.requires.count;
  pairs = c.requires.pairs;
  partners = c.requires.partners;
  few = λ d. let k = c.requires.few d in omega arith;
}
