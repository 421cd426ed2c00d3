use Rattle.std.proofs.Common.{◌≡◌, drop, map, IsSome}
use Rattle.fc_values.specs.Fields.{entries_of, entry_of}
use Rattle.fc_values.specs.Builtins.{any_of, others}
use Rattle.fc_values.proofs.hoods.any.Given as goal

abbrev pub invariant-loop-other : goal.invariant-loop-other
invariant-loop-other l = record {
  truths : IsSome (any_of (others l.device (map entry_of (drop l.other-index l.field.entries.items))));
  so_far : any_of (others l.device (map entry_of (drop l.other-index l.field.entries.items))) ≡ any_of (others l.device (entries_of l.field));
}
