use Rattle.std.proofs.Common.{◌≡◌, drop}
use Rattle.value_bounds.specs.BoundBuiltins.{spread_of}
use Rattle.value_bounds.specs.References.{lent_bounds_in}
use Rattle.value_bounds.proofs.pointwise.pointwise.Given as goal

abbrev pub invariant-loop-arg : goal.invariant-loop-arg
invariant-loop-arg l = spread_of (lent_bounds_in l.args) ≡ spread_of (lent_bounds_in (drop l.arg-index l.args))
