use Rattle.std.proofs.Common.{◌≡◌, ℕ, ◌+◌, ◌*◌, ◌<◌, ◌≤◌, length}
use Rattle.fc_values.specs.Types.{leaves, local_type_of}
use Rattle.fc_values.specs.Values.{compare_values}
use Rattle.value_columns.specs.Columns.{word_in, row_in, truth_of}
use Rattle.value_columns.proofs.choices.test_rows.Given as goal

abbrev pub invariant-loop-row : goal.invariant-loop-row
invariant-loop-row g l =
    (l.other ≡ l.at + l.rows * leaves (local_type_of l.ty))
    × (l.at + l.rows ≤ l.other)
    × (l.other + l.rows ≤ length l.words)
    × ((i : ℕ) → i < l.row → goal.F-post g l.test
    (compare_values (row_in l.fn.words (local_type_of l.ty) l.rows l.at i) (row_in l.fn.words (local_type_of l.ty) l.rows l.other i))
    (truth_of (word_in l.words (l.at + i))))
    × ((p : ℕ) → p < l.at → word_in l.words p ≡ word_in l.fn.words p)
    × ((p : ℕ) → l.at + l.row ≤ p → word_in l.words p ≡ word_in l.fn.words p)
