use Rattle.std.proofs.Common.{◌≡◌, drop}
use Rattle.value_bounds.specs.Lookups.{all_in_order}
use Rattle.value_bounds.specs.References.{lent_bounds_in}
use Rattle.value_bounds.proofs.pointwise.are_in_order.Given as goal

abbrev pub invariant-loop-arg : goal.invariant-loop-arg
invariant-loop-arg l =
    all_in_order (lent_bounds_in (drop l.arg-index l.args)) ≡ all_in_order (lent_bounds_in l.args)
