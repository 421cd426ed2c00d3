use Rattle.std.proofs.Common.{◌≡◌, ◌∙◌, sym, ap, subst, length, map, arith, nat_lt, ◌≤◌, ◌*◌, ◌+◌, vec_capacity}
use Rattle.std.proofs.lemmas.List.{length-map}
use Rattle.topology.specs.Networks.{NetDevice, Network, IsNetwork, net_device_of, edge_of}
use Rattle.topology.specs.Changes.{joined, insert_device}
use Rattle.topology.proofs.Kept.{links_few}
use Rattle.topology.proofs.Making.{on_ok}
use Rattle.fc_values.proofs.Lists.{insert_length}
use Rattle.topology.proofs.networks.Network.join.Goals as goal

pub make_room-requires : goal.make_room-requires
make_room-requires c =
    let n = c.self.inside.draft in
    let few = links_few n (subst IsNetwork (sym c.self.view_is) c.devices.ensures.network) in
    omega (
      arith,
      few,
      ap length c.devices.ensures.value,
      ap (λ (m : Network). length m.devices) c.self.view_is,
      length-map c.devices.result.now net_device_of,
      length-map c.self.inside.links.items edge_of,
      ap length c.self.invariant.links,
    )

pub invariant_of-self-else-is_err-2 : goal.invariant_of-self-else-is_err-2
invariant_of-self-else-is_err-2 c =
    let n = c.self.inside.draft in
    let put : c.add.new.self ≡ joined n (net_device_of c.args.device) = on_ok c.add.result c.if-is_err-2.ensures.negation c.add.ensures.ok in
    let room : 32 * (length c.devices.result.now + 1) ≤ vec_capacity c.make_room.new.links = on_ok c.make_room.result c.if-is_err.ensures.negation c.make_room.ensures.room in
    let more = insert_length (λ (d : NetDevice). nat_lt d.id c.args.device.id) (net_device_of c.args.device) n.devices in
    let long : length c.devices.result.now ≡ length n.devices = sym (length-map c.devices.result.now net_device_of) ∙ ap length c.devices.ensures.value ∙ sym (ap (λ (m : Network). length m.devices) c.self.view_is) in
    let enough : 32 * length (insert_device (net_device_of c.args.device) n.devices) ≤ vec_capacity c.make_room.new.links = omega (arith, room, more, long) in
    rw put (record { links = ap (map edge_of) c.make_room.ensures.links ∙ c.self.invariant.links; room = enough })
