use Rattle.std.proofs.Common.{◌≡◌, map, take}
use Rattle.fc_nodes.specs.Terms.{nodes_kept_types}
use Rattle.value_bounds.specs.BoundValues.{anything}
use Rattle.value_bounds.specs.References.{local_bounds_in}
use Rattle.bound_firing.proofs.firing.any_slots.Given as goal

abbrev pub invariant-loop-place : goal.invariant-loop-place
invariant-loop-place l =
    local_bounds_in l.slots.items ≡ map (anything l.ceiling) (nodes_kept_types (take l.place l.program.nodes))
