use Rattle.std.proofs.Common.{◌≡◌, drop, ◌++◌}
use Rattle.value_bounds.specs.References.{entries_in}
use Rattle.bound_firing.specs.FlatSeats.{NearHaveSlot, flat_entries, flat_slot}
use Rattle.bound_firing.specs.References.{near_seats_in}
use Rattle.bound_firing.proofs.seating.seat_field.Given as goal

abbrev pub invariant-loop-seat : goal.invariant-loop-seat
invariant-loop-seat l = record {
  stays : l.own ≡ l.initial.own;
  have : NearHaveSlot l.slot (near_seats_in (drop l.seat-index l.near));
  so_far : entries_in l.entries.items ++ flat_entries (flat_slot l.slot) (near_seats_in (drop l.seat-index l.near))
      ≡ flat_entries (flat_slot l.slot) (near_seats_in l.near);
}
