use Rattle.std.proofs.Common.{◌≡◌, ℕ, ◌+◌, ◌<◌, ◌≤◌, not}
use Rattle.value_columns.specs.Columns.{word_in, truth_of}
use Rattle.value_columns.proofs.leaves.negate.Given as goal

abbrev pub invariant-loop-row : goal.invariant-loop-row
invariant-loop-row l =
    ((i : ℕ) → i < l.row → truth_of (word_in l.words (l.at + i)) ≡ not (truth_of (word_in l.fn.words (l.at + i))))
    × ((p : ℕ) → p < l.at → word_in l.words p ≡ word_in l.fn.words p)
    × ((p : ℕ) → l.at + l.row ≤ p → word_in l.words p ≡ word_in l.fn.words p)
