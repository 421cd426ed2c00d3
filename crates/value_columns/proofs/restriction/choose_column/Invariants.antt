use Rattle.std.proofs.Common.{◌≡◌, ◌+◌, ◌<◌, ℕ, length}
use Rattle.value_columns.specs.Columns.{word_in}
use Rattle.value_columns.proofs.restriction.choose_column.Given as goal

abbrev pub invariant-loop-row : goal.invariant-loop-row
invariant-loop-row l = record {
  long : length l.words.items ≡ length l.fn.words.items + l.row-index;
  stay : (p : ℕ) → p < length l.fn.words.items → word_in l.words.items p ≡ word_in l.fn.words.items p;
  chosen : (j : ℕ) → j < l.row-index →
      word_in l.words.items (length l.fn.words.items + j) ≡ word_in l.fn.words.items (l.at + word_in l.kept j);
}
