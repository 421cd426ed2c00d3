use Rattle.std.proofs.Common.{◌+◌, ◌*◌}
use Rattle.value_bounds.specs.References.{local_bound_in}
use Rattle.value_bounds.proofs.Sizes.{pairs}
use Rattle.value_bounds.proofs.orders.+greater.Given as goal

abbrev pub decreases-greater_bound : goal.decreases-greater_bound
decreases-greater_bound l = 3 * pairs (local_bound_in l.a.now)

abbrev pub decreases-greater_pair : goal.decreases-greater_pair
decreases-greater_pair l = 3 * (pairs (local_bound_in l.a.now) + pairs (local_bound_in l.b.now)) + 2

abbrev pub decreases-greater_components : goal.decreases-greater_components
decreases-greater_components l = 3 * (pairs (local_bound_in l.a.now) + pairs (local_bound_in l.b.now)) + 1
