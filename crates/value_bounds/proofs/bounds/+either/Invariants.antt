use Rattle.std.proofs.Common.{◌+◌, ◌*◌}
use Rattle.value_bounds.specs.References.{local_bound_in}
use Rattle.value_bounds.proofs.Sizes.{pairs}
use Rattle.value_bounds.proofs.bounds.+either.Given as goal

abbrev pub decreases-either : goal.decreases-either
decreases-either l = 2 * pairs (local_bound_in l.a.now)

abbrev pub decreases-either_pair : goal.decreases-either_pair
decreases-either_pair l = 2 * (pairs (local_bound_in l.a.now) + pairs (local_bound_in l.b.now)) + 1
