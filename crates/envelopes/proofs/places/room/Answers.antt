use Rattle.std.proofs.Common.{rules, of_calls, ◌∙◌, sym, nat_lt}
use Rattle.std.proofs.lemmas.Fn.{always_returns_same}
use Rattle.topology.proofs.Lists.{front_is, front_len, prefix_map}
use Rattle.envelopes.specs.declared.types.DeviceBound.{DeviceBound}
use Rattle.envelopes.specs.Envelopes.{MaybeDevice}
use Rattle.envelopes.specs.Code.{maybe_device_of}
use Rattle.envelopes.proofs.Placing.{devices_parted}
use Rattle.envelopes.proofs.places.room.Goals as goal

pub returns-clause-value : goal.returns-clause-value
returns-clause-value c =
    let p = λ (x : DeviceBound). nat_lt x.id c.args.id in
    let point = c.partition_point.ensures.partitioned p
    (always_returns_same _ _ _ (λ a r f k. search (rules, of_calls)))
    (devices_parted c.args.id c.args.devices.now c.requires) in
    front_is p c.args.devices.now c.partition_point.result c.partition_point.ensures.bound point
    ∙ sym (front_len p c.args.devices.now)
    ∙ prefix_map maybe_device_of (λ (m : MaybeDevice). nat_lt m.id c.args.id) c.args.devices.now
