use Rattle.std.proofs.Common.{◌≡◌, drop, ◌++◌}
use Rattle.value_bounds.specs.References.{entries_in}
use Rattle.bound_firing.specs.FlatSeats.{flat_entries, flat_weight}
use Rattle.bound_firing.specs.References.{near_seats_in}
use Rattle.bound_firing.proofs.seating.seat_weights.Given as goal

abbrev pub invariant-loop-seat : goal.invariant-loop-seat
invariant-loop-seat l =
    entries_in l.entries.items ++ flat_entries flat_weight (near_seats_in (drop l.seat-index l.near))
    ≡ flat_entries flat_weight (near_seats_in l.near)
