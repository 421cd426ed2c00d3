use Rattle.std.proofs.Common.{◌≡◌, drop, ◌++◌}
use Rattle.value_bounds.specs.References.{any_bounds_in, lent_bounds_in}
use Rattle.bound_firing.proofs.arguments.lend_all.Given as goal

abbrev pub invariant-loop-bound : goal.invariant-loop-bound
invariant-loop-bound l =
    lent_bounds_in l.lent.items ++ any_bounds_in (drop l.bound-index l.bounds) ≡ any_bounds_in l.bounds
