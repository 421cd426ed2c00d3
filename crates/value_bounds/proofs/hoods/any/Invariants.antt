use Rattle.std.proofs.Common.{◌≡◌, drop, true}
use Rattle.value_bounds.specs.BoundBuiltins.{any_truths, any_bound}
use Rattle.value_bounds.specs.BoundValues.{Truths}
use Rattle.value_bounds.specs.References.{entries_in}
use Rattle.value_bounds.proofs.hoods.any.Given as goal

abbrev pub invariant-loop-entry : goal.invariant-loop-entry
invariant-loop-entry l =
    any_truths true (Truths l.is_true l.may_be_true) (any_bound (entries_in (drop l.entry-index l.entries)))
    ≡ any_bound (entries_in l.entries)
