use Rattle.std.proofs.Common.{◌≡◌, drop}
use Rattle.value_bounds.specs.BoundBuiltins.{entry_at}
use Rattle.value_bounds.specs.References.{entries_in}
use Rattle.value_bounds.proofs.pointwise.find.Given as goal

abbrev pub invariant-loop-entry : goal.invariant-loop-entry
invariant-loop-entry l =
    entry_at (entries_in (drop l.entry-index l.entries)) l.number ≡ entry_at (entries_in l.entries) l.number
