-- The rows of a field but for that of the firing device.
use Rattle.std.specs.Prelude.{ℕ, zero, suc, ◌+◌, ◌-◌, List, [], ◌∷◌, ◌++◌}
use Rattle.fc_values.specs.Types.{LocalType}
use Rattle.fc_values.specs.Values.{LocalValue}
use Rattle.value_columns.specs.Columns.{row_in}

-- the values in some rows from one on
abbrev pub rows_in : List ℕ → LocalType → ℕ → ℕ → ℕ → ℕ → List LocalValue
rows_in ws t rows at i zero = []
rows_in ws t rows at i (suc more) = row_in ws t rows at i ∷ rows_in ws t rows at (i + 1) more

-- the values in the rows before one, and in those behind it
abbrev pub other_rows : List ℕ → LocalType → ℕ → ℕ → ℕ → List LocalValue
other_rows ws t rows at own = rows_in ws t rows at 0 own ++ rows_in ws t rows at (own + 1) (rows - (own + 1))
