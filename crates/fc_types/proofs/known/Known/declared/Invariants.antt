use Rattle.std.proofs.Common.{◌≡◌, ◌++◌, map}
use Rattle.fc_values.specs.Types.{input_of}
use Rattle.fc_types.specs.Views.{input_entry}
use Rattle.fc_types.proofs.known.Known.declared.Given as goal

abbrev pub invariant-loop-name : goal.invariant-loop-name
invariant-loop-name l = map input_of l.inputs.items ++ map input_entry l.name-iterator ≡ map input_entry l.self.inputs.entries
