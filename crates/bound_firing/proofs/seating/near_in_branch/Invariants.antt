use Rattle.std.proofs.Common.{◌≡◌, drop, ◌++◌}
use Rattle.bound_firing.specs.FlatSeats.{NearHaveSlot, flat_near_branch}
use Rattle.bound_firing.specs.References.{near_seats_in}
use Rattle.bound_firing.proofs.seating.near_in_branch.Given as goal

abbrev pub invariant-loop-seat : goal.invariant-loop-seat
invariant-loop-seat l = record {
  have : NearHaveSlot l.slot (near_seats_in (drop l.seat-index l.all));
  so_far : near_seats_in l.near.items ++ flat_near_branch l.slot l.truth (near_seats_in (drop l.seat-index l.all))
      ≡ flat_near_branch l.slot l.truth (near_seats_in l.all);
}
