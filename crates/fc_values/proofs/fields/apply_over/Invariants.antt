use Rattle.std.proofs.Common.{◌≡◌, drop, map, ◌++◌, option_map}
use Rattle.fc_values.specs.Builtins.{field_over}
use Rattle.fc_values.specs.Fields.{Entries, devices, entries_of, entry_of, values_of}
use Rattle.fc_values.specs.Positions.{value_over}
use Rattle.fc_values.proofs.fields.apply_over.Given as goal

abbrev pub invariant-loop-position : goal.invariant-loop-position
invariant-loop-position l =
    option_map (λ (rest : Entries). map entry_of l.entries.items ++ rest) (field_over (value_over l.builtin l.ceiling (values_of l.args)) (drop l.position (devices (entries_of l.field))))
    ≡ field_over (value_over l.builtin l.ceiling (values_of l.args)) (devices (entries_of l.field))
