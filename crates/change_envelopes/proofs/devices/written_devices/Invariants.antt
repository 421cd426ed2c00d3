use Rattle.std.proofs.Common.{◌≡◌, ◌++◌, map}
use Rattle.fc_values.specs.Types.{input_of}
use Rattle.envelopes.specs.Code.{maybe_device_of}
use Rattle.change_envelopes.specs.Written.{devices_by, row_by}
use Rattle.change_envelopes.proofs.devices.written_devices.Given as goal

-- the devices that are left are those that are still to come
abbrev pub invariant-loop-id : goal.invariant-loop-id
invariant-loop-id l = map maybe_device_of l.written.items ++ devices_by (row_by l.bounds (map input_of l.inputs)) l.id-iterator
    ≡ devices_by (row_by l.bounds (map input_of l.inputs)) l.devices.entries
