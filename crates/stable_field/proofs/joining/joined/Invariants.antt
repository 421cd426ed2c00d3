use Rattle.std.proofs.Common.{◌≡◌, map, take}
use Rattle.fc_values.specs.Fields.{entry_of}
use Rattle.stable_field.specs.Columns.{joined_entries}
use Rattle.stable_field.proofs.joining.joined.Given as goal

abbrev pub invariant-loop-place : goal.invariant-loop-place
invariant-loop-place l = record {
  found : map entry_of l.list.items ≡ take l.place (joined_entries l.builtin l.ceiling (map entry_of l.first) (map entry_of l.second));
}
