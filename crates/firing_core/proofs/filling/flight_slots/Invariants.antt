use Rattle.std.proofs.Common.{◌≡◌, length}
use Rattle.std.specs.Vec.Iter.{into_iter_items, into_iter_len}
use Rattle.value_trees.specs.declared.copies.Snap.{Snap}
use Rattle.firing_core.specs.Starts.{look_up}
use Rattle.firing_core.proofs.Starting.{Filled}
use Rattle.firing_core.proofs.filling.flight_slots.Given as goal

abbrev pub invariant-loop-snap : goal.invariant-loop-snap
invariant-loop-snap l = record {
  filled : Filled (λ (s : Snap). s.device) (λ (s : Snap). s) l.net l.slots.items (into_iter_items l.snap-iterator) (look_up (λ (s : Snap). s.device) (λ (s : Snap). s) l.fn.pending.items);
  long : into_iter_len l.snap-iterator ≡ length (into_iter_items l.snap-iterator);
}
