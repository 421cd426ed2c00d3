use Rattle.std.proofs.Common.{◌+◌, ◌*◌}
use Rattle.value_bounds.specs.References.{local_bound_in}
use Rattle.value_bounds.proofs.Sizes.{pairs}
use Rattle.value_bounds.proofs.orders.+lesser.Given as goal

abbrev pub decreases-lesser_bound : goal.decreases-lesser_bound
decreases-lesser_bound l = 3 * pairs (local_bound_in l.a.now)

abbrev pub decreases-lesser_pair : goal.decreases-lesser_pair
decreases-lesser_pair l = 3 * (pairs (local_bound_in l.a.now) + pairs (local_bound_in l.b.now)) + 2

abbrev pub decreases-lesser_components : goal.decreases-lesser_components
decreases-lesser_components l = 3 * (pairs (local_bound_in l.a.now) + pairs (local_bound_in l.b.now)) + 1
