use Rattle.std.proofs.Common.{sym, subst, arith}
use Rattle.topology.specs.Networks.{numbers, IsRisingLinks}
use Rattle.topology.specs.Changes.{linked}
use Rattle.topology.proofs.Links.{rising_fit}
use Rattle.topology.proofs.Changed.{linked_network}
use Rattle.topology.proofs.Kept.{links_few}
use Rattle.topology.proofs.networks.Network.link.Goals as goal

pub put_link-requires-clause-rising : goal.put_link-requires-clause-rising
put_link-requires-clause-rising c =
    let n = c.self.inside.draft in
    subst IsRisingLinks (sym c.self.invariant.links) (rising_fit n.declared (numbers n.devices) n.links c.in_ok-link.ensures.network.links)

pub put_link-requires-clause-room : goal.put_link-requires-clause-room
put_link-requires-clause-room c =
    let n = c.self.inside.draft in
    let few = links_few (linked n c.args.a c.args.b c.args.weight) (linked_network n c.args.a c.args.b c.args.weight c.in_ok-link.ensures.network c.in_ok-link.ensures.accepted) in
    let k = c.self.invariant.room in
    rw (c.min.ensures, c.max.ensures, c.self.invariant.links) (omega (arith, few))
