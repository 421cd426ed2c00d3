use Rattle.firing_core.proofs.RoomSteps.{WrittenTo}
use Rattle.firing_core.proofs.rooms.overwrite_locals.Given as goal

abbrev pub invariant-loop-i : goal.invariant-loop-i
invariant-loop-i l = record { written : WrittenTo l.i l.target l.source }
