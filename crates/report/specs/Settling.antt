-- The text of settling: after how many rounds the devices of a network hold their values, and which.
use Rattle.std.specs.Prelude.{ℕ, flat_map, List, ◌++◌, codes, None, Some, Option}
use Rattle.std.specs.Fmt.{decimal}
use Rattle.fc_values.specs.Values.{LocalValue}
use Rattle.report.specs.Texts.{after_space}

-- the settle line, of the settle time if there is one
abbrev pub settle_line_text : Option ℕ → List ℕ
settle_line_text None = codes "open\n"
settle_line_text (Some rounds) = codes "settles " ++ decimal rounds ++ codes "\n"

-- a settle round and its value; `-` where there is none
abbrev pub settled_text : Option (ℕ × LocalValue) → List ℕ
settled_text None = codes "-"
settled_text (Some s) = decimal s.0 ++ after_space s.1

-- the line of a device
abbrev pub settled_device_text : ℕ × Option (ℕ × LocalValue) → List ℕ
settled_device_text d = decimal d.0 ++ codes " " ++ settled_text d.1 ++ codes "\n"

-- the settle line, and a line for each device
abbrev pub settling_text : Option ℕ → List (ℕ × Option (ℕ × LocalValue)) → List ℕ
settling_text time devices = settle_line_text time ++ flat_map settled_device_text devices
