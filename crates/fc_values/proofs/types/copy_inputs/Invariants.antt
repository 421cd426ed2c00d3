use Rattle.std.proofs.Common.{◌≡◌, take, map}
use Rattle.fc_values.specs.Types.{input_of}
use Rattle.fc_values.proofs.types.copy_inputs.Given as goal

abbrev pub invariant-loop-input : goal.invariant-loop-input
invariant-loop-input l = map input_of l.copies.items ≡ map input_of (take l.input-index l.inputs)
