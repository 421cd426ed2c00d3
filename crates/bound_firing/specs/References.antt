-- What seats in code stand for.
use Rattle.std.specs.Prelude.{Bool, List, map, option_map}
use Rattle.value_bounds.specs.BoundValues.{BoundValue}
use Rattle.value_bounds.specs.References.{local_bounds_in}
use Rattle.bound_firing.specs.declared.seats.OwnSeat.{OwnSeat}
use Rattle.bound_firing.specs.declared.seats.NearSeat.{NearSeat}
use Rattle.bound_firing.specs.declared.seats.Seats.{Seats}
use Rattle.bound_firing.specs.FlatSeats.{FlatSeat, FlatSeats}

abbrev pub own_seat_in : OwnSeat → Bool × List BoundValue
own_seat_in o = (o.sure, local_bounds_in o.slots.now)

abbrev pub near_seat_in : NearSeat → FlatSeat
near_seat_in n = record {
  device = n.device;
  least = n.least;
  greatest = n.greatest;
  sure = n.sure;
  slots = local_bounds_in n.slots.now;
}

abbrev pub near_seats_in : List NearSeat → List FlatSeat
near_seats_in ns = map near_seat_in ns

abbrev pub flat_seats_in : Seats → FlatSeats
flat_seats_in s = record { own = option_map own_seat_in s.own; near = near_seats_in s.near.items }
