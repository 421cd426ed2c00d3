use Rattle.std.proofs.Common.{◌≡◌, take, map}
use Rattle.fc_values.specs.Fields.{entry_of}
use Rattle.stable_field.proofs.terms.copied.Given as goal

abbrev pub invariant-loop-entry : goal.invariant-loop-entry
invariant-loop-entry l = map entry_of l.list.items ≡ map entry_of (take l.entry-index l.values)
