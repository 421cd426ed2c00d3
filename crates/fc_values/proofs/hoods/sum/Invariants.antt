use Rattle.std.proofs.Common.{◌≡◌, ◌≤◌, ◌+◌, min, drop, map, IsSome, option_map}
use Rattle.fc_values.specs.Fields.{entries_of, entry_of}
use Rattle.fc_values.specs.Builtins.{sum_of, others}
use Rattle.fc_values.proofs.hoods.sum.Given as goal

abbrev pub invariant-loop-other : goal.invariant-loop-other
invariant-loop-other l = record {
  integers : IsSome (sum_of (others l.device (map entry_of (drop l.other-index l.field.entries.items))));
  cut : l.total ≤ l.ceiling;
  so_far : option_map (λ rest. min l.ceiling (l.total + rest)) (sum_of (others l.device (map entry_of (drop l.other-index l.field.entries.items))))
      ≡ option_map (λ sum. min l.ceiling sum) (sum_of (others l.device (entries_of l.field)));
}
