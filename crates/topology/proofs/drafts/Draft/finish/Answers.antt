use Rattle.std.proofs.Common.{ap, length, arith}
use Rattle.std.proofs.lemmas.List.{length-map}
use Rattle.topology.specs.Networks.{net_device_of}
use Rattle.topology.proofs.Kept.{lists_long, links_few}
use Rattle.topology.specs.contracts.drafts.Draft.{the_view}
use Rattle.topology.proofs.drafts.Draft.finish.Goals as goal

pub links_of-requires-clause-long : goal.links_of-requires-clause-long
links_of-requires-clause-long c =
    let long = lists_long (the_view c.self.inside) c.self.inside.near.items c.self.invariant in
    omega (arith, long, length-map c.self.inside.devices.items net_device_of, ap length c.deref-2.ensures.value, ap length c.deref.ensures.value)

pub links_of-requires-clause-few : goal.links_of-requires-clause-few
links_of-requires-clause-few c =
    let few = links_few (the_view c.self.inside) c.self.invariant.network in
    rw (c.deref-2.ensures.value, c.deref.ensures.value) (omega (arith, few, length-map c.self.inside.devices.items net_device_of))

pub links_of-requires-clause-most : goal.links_of-requires-clause-most
links_of-requires-clause-most c =
    let few = c.self.invariant.network.few in
    omega (arith, few, length-map c.self.inside.devices.items net_device_of, ap length c.deref.ensures.value)
