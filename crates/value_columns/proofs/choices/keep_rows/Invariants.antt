use Rattle.std.proofs.Common.{◌≡◌, ℕ, ◌+◌, ◌*◌, ◌<◌, ◌≤◌, length}
use Rattle.fc_values.specs.Types.{leaves, local_type_of}
use Rattle.value_columns.specs.Arguments.{kept}
use Rattle.value_columns.specs.Columns.{word_in, row_in}
use Rattle.value_columns.proofs.choices.keep_rows.Given as goal

abbrev pub invariant-loop-row : goal.invariant-loop-row
invariant-loop-row l =
    (l.other ≡ l.at + l.rows * leaves (local_type_of l.ty))
    × (l.at + l.rows ≤ l.other)
    × (l.other + l.rows ≤ length l.words)
    × ((i : ℕ) → i < l.row → row_in l.words (local_type_of l.ty) l.rows l.at i
    ≡ kept l.greatest (row_in l.fn.words (local_type_of l.ty) l.rows l.at i) (row_in l.fn.words (local_type_of l.ty) l.rows l.other i))
    × ((p : ℕ) → p < l.at → word_in l.words p ≡ word_in l.fn.words p)
    × ((i : ℕ) → l.row ≤ i → i < l.rows → (k : ℕ) → word_in l.words (l.at + l.rows * k + i) ≡ word_in l.fn.words (l.at + l.rows * k + i))
