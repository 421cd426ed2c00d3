-- The texts of local values, and of what devices hold. A number is written by std's `decimal`, without leading zeros.
use Rattle.std.specs.Prelude.{ℕ, true, false, flat_map, List, ◌++◌, codes, None, Some, option_map, Option}
use Rattle.std.specs.Fmt.{decimal}
use Rattle.fc_values.specs.Fields.{Entries}
use Rattle.fc_values.specs.Trees.{TreeExport}
use Rattle.fc_values.specs.Values.{LocalValue, IntValue, BoolValue, PairValue}
use Rattle.topology.specs.Networks.{NetDevice}
use Rattle.firing_core.specs.Cores.{Core}

-- the text of a local value: a number is decimal, a truth value is a word, and a pair is `(a,b)`
abbrev pub value_text : LocalValue → List ℕ
value_text (IntValue n) = decimal n
value_text (BoolValue true) = codes "true"
value_text (BoolValue false) = codes "false"
value_text (PairValue a b) = codes "(" ++ value_text a ++ codes "," ++ value_text b ++ codes ")"

-- values, each after a space
abbrev pub after_space : LocalValue → List ℕ
after_space v = codes " " ++ value_text v

abbrev pub after_spaces : List LocalValue → List ℕ
after_spaces vs = flat_map after_space vs

-- what a device holds: `-` where it has no export
abbrev pub held_text : Option LocalValue → List ℕ
held_text None = codes "-"
held_text (Some value) = value_text value

-- the line of a device
abbrev pub device_line : ℕ → Option LocalValue → List ℕ
device_line device held = decimal device ++ codes " " ++ held_text held ++ codes "\n"

-- the value of an export
abbrev pub export_value : TreeExport → LocalValue
export_value export = export.value

-- the lines of a core's devices, which rise
abbrev pub values_text : Core → List ℕ
values_text core =
    flat_map (λ (d : NetDevice). device_line d.id (option_map export_value (core.exports d.id))) core.net.devices

-- the lines of a field's devices, which rise
abbrev pub field_text : Entries → List ℕ
field_text f = flat_map (λ (e : ℕ × LocalValue). device_line e.0 (Some e.1)) f
