use Rattle.std.proofs.Common.{sym, ap, subst, length, arith}
use Rattle.std.proofs.lemmas.List.{length-map}
use Rattle.topology.specs.Networks.{Network, IsNetwork, net_device_of, edge_of}
use Rattle.topology.proofs.Kept.{links_few}
use Rattle.topology.proofs.networks.Network.copy.Goals as goal

pub copy_links-requires : goal.copy_links-requires
copy_links-requires c =
    let n = c.self.inside.draft in
    let few = links_few n (subst IsNetwork (sym c.self.view_is) c.devices.ensures.network) in
    omega (
      arith,
      few,
      ap length c.devices.ensures.value,
      ap (λ (m : Network). length m.devices) c.self.view_is,
      length-map c.devices.result.now net_device_of,
      ap length c.deref.ensures.value,
      length-map c.self.inside.links.items edge_of,
      ap length c.self.invariant.links,
    )
