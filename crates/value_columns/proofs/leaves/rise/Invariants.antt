use Rattle.std.proofs.Common.{◌≡◌, ℕ, ◌+◌, ◌<◌, ◌≤◌, min}
use Rattle.value_columns.specs.Columns.{word_in}
use Rattle.value_columns.proofs.leaves.rise.Given as goal

abbrev pub invariant-loop-row : goal.invariant-loop-row
invariant-loop-row l =
    ((i : ℕ) → i < l.row → word_in l.words (l.at + i) ≡ min (word_in l.fn.words (l.at + i)) (word_in l.fn.words (l.at + l.rows + i) + word_in l.fn.words (l.at + l.rows + l.rows + i)))
    × ((p : ℕ) → p < l.at → word_in l.words p ≡ word_in l.fn.words p)
    × ((p : ℕ) → l.at + l.row ≤ p → word_in l.words p ≡ word_in l.fn.words p)
