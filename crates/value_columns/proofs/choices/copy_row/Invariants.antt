use Rattle.std.proofs.Common.{◌≡◌, ◌≢◌, ℕ, ◌+◌, ◌*◌, ◌<◌}
use Rattle.value_columns.specs.Columns.{word_in}
use Rattle.value_columns.proofs.choices.copy_row.Given as goal

abbrev pub invariant-loop-leaf : goal.invariant-loop-leaf
invariant-loop-leaf l =
    ((k : ℕ) → k < l.leaf → word_in l.words (l.to + l.rows * k) ≡ word_in l.fn.words (l.from + l.rows * k))
    × ((p : ℕ) → ((k : ℕ) → k < l.leaf → p ≢ l.to + l.rows * k) → word_in l.words p ≡ word_in l.fn.words p)
