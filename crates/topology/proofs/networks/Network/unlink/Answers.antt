use Rattle.std.proofs.Common.{sym, subst}
use Rattle.topology.specs.Networks.{numbers, IsRisingLinks}
use Rattle.topology.proofs.Links.{rising_fit}
use Rattle.topology.proofs.Changed.{can_unlink}
use Rattle.topology.proofs.networks.Network.unlink.Goals as goal

pub drop_link-requires-clause-rising : goal.drop_link-requires-clause-rising
drop_link-requires-clause-rising c =
    let n = c.self.inside.draft in
    subst IsRisingLinks (sym c.self.invariant.links) (rising_fit n.declared (numbers n.devices) n.links c.in_ok-unlink.ensures.network.links)

pub drop_link-requires-clause-there : goal.drop_link-requires-clause-there
drop_link-requires-clause-there c =
    let n = c.self.inside.draft in
    rw (c.min.ensures, c.max.ensures, c.self.invariant.links) (can_unlink n c.args.a c.args.b c.in_ok-unlink.ensures.network c.in_ok-unlink.ensures.accepted).pair
