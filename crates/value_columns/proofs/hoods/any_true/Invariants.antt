use Rattle.std.proofs.Common.{◌≡◌, drop}
use Rattle.std.specs.List.{list_any}
use Rattle.value_columns.specs.Columns.{truth_of}
use Rattle.value_columns.proofs.hoods.any_true.Given as goal

abbrev pub invariant-loop-truth : goal.invariant-loop-truth
invariant-loop-truth l = list_any truth_of (drop l.truth-index l.truths) ≡ list_any truth_of l.truths
