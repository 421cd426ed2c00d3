use Rattle.std.proofs.Common.{◌≡◌, ◌≤◌, drop}
use Rattle.value_bounds.specs.BoundBuiltins.{add_range, cut, sum_bound}
use Rattle.value_bounds.specs.BoundValues.{Between}
use Rattle.value_bounds.specs.References.{entries_in}
use Rattle.std.specs.Prelude.{true}
use Rattle.value_bounds.proofs.hoods.sum.Given as goal

abbrev pub invariant-loop-entry : goal.invariant-loop-entry
invariant-loop-entry l = record {
  least_cut : l.least ≤ l.ceiling;
  greatest_cut : l.greatest ≤ l.ceiling;
  so_far : cut l.ceiling (add_range true (Between l.least l.greatest)
      (sum_bound (entries_in (drop l.entry-index l.entries))))
      ≡ cut l.ceiling (sum_bound (entries_in l.entries));
}
