use Rattle.std.proofs.Common.{rules, of_calls, ◌∙◌, sym, nat_lt}
use Rattle.std.proofs.lemmas.Fn.{always_returns_same}
use Rattle.topology.specs.declared.types.Device.{Device}
use Rattle.topology.specs.Networks.{NetDevice, net_device_of}
use Rattle.topology.proofs.Lists.{front_is, front_len, prefix_map}
use Rattle.topology.proofs.Orders.{devices_parted}
use Rattle.topology.proofs.places.room_for_device.Goals as goal

pub returns-clause-value : goal.returns-clause-value
returns-clause-value c =
    let p = λ (x : Device). nat_lt x.id c.args.id in
    let point = c.partition_point.ensures.partitioned p (always_returns_same _ _ _ (λ a r f k. search (rules, of_calls))) (devices_parted c.args.id c.args.devices.now c.requires) in
    front_is p c.args.devices.now c.partition_point.result c.partition_point.ensures.bound point
    ∙ sym (front_len p c.args.devices.now) ∙ prefix_map net_device_of (λ (n : NetDevice). nat_lt n.id c.args.id) c.args.devices.now
