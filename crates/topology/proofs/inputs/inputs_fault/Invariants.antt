use Rattle.std.proofs.Common.{◌≡◌, drop, map}
use Rattle.fc_values.specs.Types.{input_of}
use Rattle.fc_values.specs.Values.{local_of}
use Rattle.topology.specs.Inputs.{inputs_fault}
use Rattle.topology.proofs.inputs.inputs_fault.Given as goal

abbrev pub invariant-loop-i : goal.invariant-loop-i
invariant-loop-i l = inputs_fault (map input_of (drop l.i l.inputs)) (map local_of (drop l.i l.values)) ≡ inputs_fault (map input_of l.inputs) (map local_of l.values)
