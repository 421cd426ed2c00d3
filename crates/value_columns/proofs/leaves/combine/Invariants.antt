use Rattle.std.proofs.Common.{◌≡◌, ℕ, ◌+◌, ◌<◌, ◌≤◌}
use Rattle.value_columns.specs.Columns.{word_in}
use Rattle.value_columns.proofs.leaves.combine.Given as goal

abbrev pub invariant-loop-row : goal.invariant-loop-row
invariant-loop-row g l =
    ((i : ℕ) → i < l.row → goal.F-post g l.f (word_in l.fn.words (l.at + i)) (word_in l.fn.words (l.at + l.rows + i)) (word_in l.words (l.at + i)))
    × ((p : ℕ) → p < l.at → word_in l.words p ≡ word_in l.fn.words p)
    × ((p : ℕ) → l.at + l.row ≤ p → word_in l.words p ≡ word_in l.fn.words p)
