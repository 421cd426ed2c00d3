use Rattle.std.proofs.Common.{◌≡◌, ℕ, ◌+◌, ◌*◌, ◌<◌, ◌≤◌, length, if◌then◌else◌}
use Rattle.fc_values.specs.Types.{leaves, local_type_of}
use Rattle.value_columns.specs.Columns.{word_in, row_in, truth_of}
use Rattle.value_columns.proofs.choices.select_rows.Given as goal

abbrev pub invariant-loop-row : goal.invariant-loop-row
invariant-loop-row l =
    (l.second ≡ l.first + l.rows * leaves (local_type_of l.ty))
    × (l.first + l.rows ≤ l.second)
    × (l.second + l.rows ≤ length l.words)
    × ((i : ℕ) → i < l.row → row_in l.words (local_type_of l.ty) l.rows l.at i
    ≡ (if truth_of (word_in l.fn.words (l.at + i)) then row_in l.fn.words (local_type_of l.ty) l.rows l.first i
    else row_in l.fn.words (local_type_of l.ty) l.rows l.second i))
    × ((p : ℕ) → p < l.at → word_in l.words p ≡ word_in l.fn.words p)
    × ((i : ℕ) → l.row ≤ i → i < l.rows → (k : ℕ) → word_in l.words (l.at + l.rows * k + i) ≡ word_in l.fn.words (l.at + l.rows * k + i))
