use Rattle.std.proofs.Common.{◌≡◌, map, take}
use Rattle.fc_values.specs.Types.{input_of}
use Rattle.value_bounds.specs.References.{local_bounds_in}
use Rattle.change_envelopes.specs.Written.{row_by}
use Rattle.change_envelopes.proofs.devices.written_inputs.Given as goal

abbrev pub invariant-loop-i : goal.invariant-loop-i
invariant-loop-i l = local_bounds_in l.row.items ≡ row_by l.bounds (map input_of (take l.i l.inputs)) l.device
