use Rattle.std.proofs.Common.{◌+◌, ◌*◌}
use Rattle.value_bounds.specs.References.{local_bound_in}
use Rattle.value_bounds.proofs.Sizes.{pairs}
use Rattle.value_bounds.proofs.bounds.+copy.Given as goal

abbrev pub decreases-copy_bound : goal.decreases-copy_bound
decreases-copy_bound l = 2 * pairs (local_bound_in l.bound.now)

abbrev pub decreases-copy_pair : goal.decreases-copy_pair
decreases-copy_pair l = 2 * (pairs (local_bound_in l.a.now) + pairs (local_bound_in l.b.now)) + 1
