use Rattle.std.proofs.Common.{◌≡◌, drop}
use Rattle.fc_values.specs.Fields.{values_of}
use Rattle.fc_values.specs.Builtins.{field_devices}
use Rattle.fc_values.proofs.fields.first_field.Given as goal

abbrev pub invariant-loop-arg : goal.invariant-loop-arg
invariant-loop-arg l = field_devices (values_of l.args) ≡ field_devices (values_of (drop l.arg-index l.args))
