use Rattle.std.proofs.Common.{◌∙◌, rules, tests}
use Rattle.std.proofs.lemmas.Iterator.{YieldsList-from_slice}
use Rattle.std.proofs.lemmas.Iterator.Search.{any_from_yields_List}
use Rattle.bound_firing.proofs.SeatTests.{sure_seat_is, any_sure, seat_sure}
use Rattle.bound_firing.proofs.seating.has_sure_seat.Goals as goal

pub returns-in-Some : goal.returns-in-Some
returns-in-Some c =
    let h = c.in-Some.ensures.lookup in
    let s = c.in-Some.seat.now in
    seat_sure c.args.device c.args.near.now c.args.index s h.1 h.3.0 c.if-seat-device.true c.if-seat.true

pub returns-in_default : goal.returns-in_default
returns-in_default c =
    any_from_yields_List (sure_seat_is c.args.device) _ _ _ c.any.ensures.ran (YieldsList-from_slice c.args.near.now cc)
    (λ x b q k. search (rules, tests))
    ∙ any_sure c.args.device c.args.near.now
