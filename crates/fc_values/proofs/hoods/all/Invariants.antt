use Rattle.std.proofs.Common.{◌≡◌, drop, map, IsSome}
use Rattle.fc_values.specs.Fields.{entries_of, entry_of}
use Rattle.fc_values.specs.Builtins.{all_of, others}
use Rattle.fc_values.proofs.hoods.all.Given as goal

abbrev pub invariant-loop-other : goal.invariant-loop-other
invariant-loop-other l = record {
  truths : IsSome (all_of (others l.device (map entry_of (drop l.other-index l.field.entries.items))));
  so_far : all_of (others l.device (map entry_of (drop l.other-index l.field.entries.items))) ≡ all_of (others l.device (entries_of l.field));
}
