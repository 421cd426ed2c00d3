use Rattle.std.proofs.Common.{◌∙◌, length, map, arith}
use Rattle.std.proofs.lemmas.List.{length-map}
use Rattle.envelopes.specs.Code.{maybe_device_of}
use Rattle.envelopes.proofs.Placing.{number_get, room_at}
use Rattle.envelopes.proofs.places.place.Goals as goal

pub returns-then-devices-own-clause-there : goal.returns-then-devices-own-clause-there
returns-then-devices-own-clause-there c =
    number_get c.args.devices.now c.args.id c.index-devices-own.result c.if-own-devices.true
    ∙ c.if-devices-own.true

pub returns-clause-there : goal.returns-clause-there
returns-clause-there c =
    (room_at c.args.id c.room.result (map maybe_device_of c.args.devices.now) c.requires.rising c.requires.there
    c.room.ensures.value).1

pub returns-clause-within : goal.returns-clause-within
returns-clause-within c =
    let r = room_at c.args.id c.room.result (map maybe_device_of c.args.devices.now) c.requires.rising c.requires.there
    c.room.ensures.value in
    let l = length-map c.args.devices.now maybe_device_of in
    omega (arith, r.0, l)
