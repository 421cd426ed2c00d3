use Rattle.std.proofs.Common.{◌≡◌, ℕ, ◌<◌}
use Rattle.value_bounds.specs.BoundValues.{Unbounded}
use Rattle.value_bounds.specs.References.{local_bounds_in}
use Rattle.bound_firing.specs.BoundTrees.{slot_bound}
use Rattle.bound_firing.proofs.firing.clear.Given as goal

abbrev pub invariant-loop-slot : goal.invariant-loop-slot
invariant-loop-slot l = (k : ℕ) → k < l.slot-index → slot_bound k (local_bounds_in l.slots) ≡ Unbounded
