use Rattle.std.proofs.Common.{◌≡◌, ◌+◌, ◌<◌, ℕ, length}
use Rattle.value_columns.specs.Columns.{word_in}
use Rattle.value_columns.proofs.copies.repeat_word.Given as goal

abbrev pub invariant-loop-row : goal.invariant-loop-row
invariant-loop-row l = record {
  long : length l.words.items ≡ length l.fn.words.items + l._row;
  stay : (p : ℕ) → p < length l.fn.words.items → word_in l.words.items p ≡ word_in l.fn.words.items p;
  added : (i : ℕ) → i < l._row → word_in l.words.items (length l.fn.words.items + i) ≡ word_in l.fn.words.items l.place;
}
