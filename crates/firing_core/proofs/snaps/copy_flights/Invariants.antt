use Rattle.std.proofs.Common.{◌≡◌, take, drop, map}
use Rattle.std.specs.Prelude.{option_map}
use Rattle.fc_nodes.specs.Program.{unfolding_of}
use Rattle.value_trees.specs.Snaps.{snap_copy}
use Rattle.firing_core.specs.CoreViews.{AllSnaps}
use Rattle.firing_core.proofs.snaps.copy_flights.Given as goal

abbrev pub invariant-loop-flight : goal.invariant-loop-flight
invariant-loop-flight l = record {
  same : map (option_map (snap_copy (unfolding_of l.program))) l.copies.items ≡ map (option_map (snap_copy (unfolding_of l.program))) (take l.flight-index l.flights);
  copied : AllSnaps (unfolding_of l.program) l.copies.items;
  left : AllSnaps (unfolding_of l.program) (drop l.flight-index l.flights);
}
