use Rattle.std.proofs.Common.{◌∙◌, sym, arith, map}
use Rattle.std.proofs.lemmas.List.{length-map}
use Rattle.topology.specs.Networks.{net_device_of, numbers}
use Rattle.topology.proofs.Orders.{number_get, numbers_length, not_there}
use Rattle.topology.proofs.Devices.{at_in}
use Rattle.topology.proofs.places.place.Goals as goal
use Rattle.topology.proofs.places.place.Goals.{else-at-devices-via-then-at-devices+else-devices-at, else-at-devices-via-else-at-devices}

pub returns-then-devices-own-clause-there : goal.returns-then-devices-own-clause-there
returns-then-devices-own-clause-there c =
    number_get c.args.devices.now c.args.id c.index-devices-own.result c.if-own-devices.true
    ∙ c.if-devices-own.true

pub returns-then-devices-own-clause-is_in : goal.returns-then-devices-own-clause-is_in
returns-then-devices-own-clause-is_in c =
    at_in c.args.id (numbers (map net_device_of c.args.devices.now)) c.args.id (omega (arith, numbers_length c.args.devices.now, c.if-own-devices.true))
    (number_get c.args.devices.now c.args.id c.index-devices-own.result c.if-own-devices.true
    ∙ c.if-devices-own.true)

pub returns-then-devices-at-clause-there : goal.returns-then-devices-at-clause-there
returns-then-devices-at-clause-there c =
    number_get c.args.devices.now c.room_for_device-at.result c.index-devices-at.result c.if-at-devices.true
    ∙ c.if-devices-at.true

pub returns-then-devices-at-clause-is_in : goal.returns-then-devices-at-clause-is_in
returns-then-devices-at-clause-is_in c =
    at_in c.args.id (numbers (map net_device_of c.args.devices.now)) c.room_for_device-at.result (omega (arith, numbers_length c.args.devices.now, c.if-at-devices.true))
    (number_get c.args.devices.now c.room_for_device-at.result c.index-devices-at.result c.if-at-devices.true
    ∙ c.if-devices-at.true)

pub returns-else-at-devices-clause-none : goal.returns-else-at-devices-clause-none
returns-else-at-devices-clause-none c =
    not_there c.args.id c.room_for_device-at.result (map net_device_of c.args.devices.now) c.requires c.room_for_device-at.ensures.value
    (elim c.else-at-devices.branch [
      | else-at-devices-via-then-at-devices+else-devices-at w ↦ λ h e. w.if-devices-at.false (sym (number_get c.args.devices.now c.room_for_device-at.result w.index-devices-at.result w.if-at-devices.true) ∙ e)
      | else-at-devices-via-else-at-devices w ↦ λ h e. absurd (omega (arith, w.if-at-devices.false, length-map c.args.devices.now net_device_of))
    ])
