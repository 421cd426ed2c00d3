use Rattle.std.proofs.Common.{◌≡◌, ◌-◌, drop}
use Rattle.fc_values.specs.Fields.{rises}
use Rattle.value_bounds.specs.Lookups.{numbers_in}
use Rattle.value_bounds.specs.References.{entries_in}
use Rattle.value_bounds.proofs.pointwise.numbers_rise.Given as goal

abbrev pub invariant-loop-position : goal.invariant-loop-position
invariant-loop-position l =
    rises (drop (l.position - 1) (numbers_in (entries_in l.entries))) ≡ rises (numbers_in (entries_in l.entries))
