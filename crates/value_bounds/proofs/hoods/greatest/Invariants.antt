use Rattle.std.proofs.Common.{◌≡◌, drop}
use Rattle.value_bounds.specs.BoundBuiltins.{greatest_bound}
use Rattle.value_bounds.specs.References.{entries_in, local_bound_in}
use Rattle.value_bounds.proofs.hoods.greatest.Given as goal

abbrev pub invariant-loop-entry : goal.invariant-loop-entry
invariant-loop-entry l =
    greatest_bound (local_bound_in l.best) (entries_in (drop l.entry-index l.entries))
    ≡ greatest_bound (local_bound_in l.local) (entries_in l.entries)
