use Rattle.std.proofs.Common.{◌≡◌, drop}
use Rattle.std.specs.List.{list_all}
use Rattle.value_columns.specs.Columns.{truth_of}
use Rattle.value_columns.proofs.hoods.all_true.Given as goal

abbrev pub invariant-loop-truth : goal.invariant-loop-truth
invariant-loop-truth l = list_all truth_of (drop l.truth-index l.truths) ≡ list_all truth_of l.truths
