use Rattle.std.proofs.Common.{◌≡◌, ◌+◌, min, take}
use Rattle.std.specs.Prelude.{sum}
use Rattle.value_columns.proofs.hoods.sum_cut.Given as goal

abbrev pub invariant-loop-number : goal.invariant-loop-number
invariant-loop-number l = l.total ≡ min l.ceiling (l.start + sum (take l.number-index l.numbers))
