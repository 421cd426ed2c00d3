use Rattle.std.proofs.Common.{◌≡◌, take}
use Rattle.value_bounds.specs.References.{local_bounds_in}
use Rattle.last_bounds.specs.References.{values_in}
use Rattle.last_bounds.proofs.lasts.values_of.Given as goal

abbrev pub invariant-loop-bound : goal.invariant-loop-bound
invariant-loop-bound l = local_bounds_in l.values.items ≡ values_in (take l.bound-index l.bounds)
