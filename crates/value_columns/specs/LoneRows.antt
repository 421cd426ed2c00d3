-- A row by itself.
use Rattle.std.specs.Prelude.{ℕ, ◌+◌, ◌*◌, ◌<◌, List, length}
use Rattle.fc_values.specs.Types.{LocalType, leaves}
use Rattle.fc_values.specs.Values.{LocalValue}
use Rattle.value_columns.specs.declared.order.Row.{Row}
use Rattle.value_columns.specs.Columns.{row_in}

-- the value of a type in a row
abbrev pub value_in : List ℕ → LocalType → Row → LocalValue
value_in ws t r = row_in ws t r.step r.first 0

-- its last leaf stands among the words
abbrev pub Stands : List ℕ → LocalType → Row → Type 0
Stands ws t r = r.first + r.step * leaves t < length ws + r.step
