use Rattle.std.proofs.Common.{ℕ, drop, map}
use Rattle.value_bounds.specs.References.{local_bound_in}
use Rattle.last_bounds.specs.References.{IsFirst, change_in}
use Rattle.last_bounds.proofs.changes.first_rounds.Given as goal

abbrev pub invariant-loop-change : goal.invariant-loop-change
invariant-loop-change l = (r : ℕ)
    → IsFirst (local_bound_in l.bound) l.never (map change_in (drop l.change-index l.changes)) r
    → IsFirst (local_bound_in l.bound) l.never (map change_in l.changes) r
