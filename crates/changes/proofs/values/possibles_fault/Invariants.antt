use Rattle.std.proofs.Common.{◌≡◌, drop, map}
use Rattle.fc_values.specs.Types.{input_of}
use Rattle.changes.specs.Faults.{possibles_fault}
use Rattle.changes.proofs.values.possibles_fault.Given as goal

abbrev pub invariant-loop-i : goal.invariant-loop-i
invariant-loop-i l = possibles_fault (map input_of (drop l.i l.inputs)) (drop l.i l.values) ≡ possibles_fault (map input_of l.inputs) l.values
