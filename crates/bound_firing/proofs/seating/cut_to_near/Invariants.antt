use Rattle.std.proofs.Common.{◌≡◌, drop, ◌++◌}
use Rattle.value_bounds.specs.References.{entries_in}
use Rattle.bound_firing.specs.Seats.{cut_entries}
use Rattle.bound_firing.specs.FlatSeats.{flat_maybes}
use Rattle.bound_firing.specs.References.{near_seats_in}
use Rattle.bound_firing.proofs.seating.cut_to_near.Given as goal

abbrev pub invariant-loop-entry : goal.invariant-loop-entry
invariant-loop-entry l =
    entries_in l.cut.items
    ++ cut_entries (flat_maybes (near_seats_in l.near)) (entries_in (drop l.entry-index l.entries))
    ≡ cut_entries (flat_maybes (near_seats_in l.near)) (entries_in l.entries)
