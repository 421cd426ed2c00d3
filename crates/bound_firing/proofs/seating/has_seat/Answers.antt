use Rattle.std.proofs.Common.{◌∙◌, rules, tests}
use Rattle.std.proofs.lemmas.Iterator.{YieldsList-from_slice}
use Rattle.std.proofs.lemmas.Iterator.Search.{any_from_yields_List}
use Rattle.bound_firing.proofs.SeatTests.{seat_is, any_there, seat_there}
use Rattle.bound_firing.proofs.seating.has_seat.Goals as goal

pub returns-in-Some : goal.returns-in-Some
returns-in-Some c =
    let h = c.in-Some.ensures.lookup in
    seat_there c.args.device c.args.near.now c.args.index c.in-Some.seat.now h.1 h.3.0 c.if-seat-device.true

pub returns-in_default : goal.returns-in_default
returns-in_default c =
    any_from_yields_List (seat_is c.args.device) _ _ _ c.any.ensures.ran (YieldsList-from_slice c.args.near.now cc)
    (λ x b q k. search (rules, tests))
    ∙ any_there c.args.device c.args.near.now
