use Rattle.std.proofs.Common.{◌≡◌, take, map}
use Rattle.fc_values.specs.Types.{input_of}
use Rattle.net_json.proofs.inputs.wanted_inputs.Given as goal

abbrev pub invariant-loop-input : goal.invariant-loop-input
invariant-loop-input l = l.found.items ≡ map input_of (take l.input-index l.inputs)
