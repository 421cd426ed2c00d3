use Rattle.std.proofs.Common.{◌≡◌, ◌+◌, ◌<◌, ℕ, length}
use Rattle.value_columns.specs.Columns.{word_in}
use Rattle.value_columns.specs.LocalWords.{local_at, words_of}
use Rattle.value_columns.proofs.locals.push_column.Given as goal

abbrev pub invariant-loop-value : goal.invariant-loop-value
invariant-loop-value l = record {
  long : length l.words.items ≡ length l.fn.words.items + l.value-index;
  stay : (p : ℕ) → p < length l.fn.words.items → word_in l.words.items p ≡ word_in l.fn.words.items p;
  column : (i : ℕ) → i < l.value-index →
      word_in l.words.items (length l.fn.words.items + i) ≡ word_in (words_of (local_at l.values i)) l.leaf;
}
