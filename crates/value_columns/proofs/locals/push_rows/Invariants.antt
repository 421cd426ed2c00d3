use Rattle.std.proofs.Common.{◌≡◌, ◌+◌, ◌*◌, ◌<◌, ℕ, length}
use Rattle.value_columns.specs.Columns.{word_in}
use Rattle.value_columns.specs.LocalWords.{local_at, words_of}
use Rattle.value_columns.proofs.MoreColumns.{Columns}
use Rattle.value_columns.proofs.locals.push_rows.Given as goal

abbrev pub invariant-loop-leaf : goal.invariant-loop-leaf
invariant-loop-leaf l = record {
  long : length l.words.items ≡ length l.fn.words.items + length l.values * l.leaf;
  stay : (p : ℕ) → p < length l.fn.words.items → word_in l.words.items p ≡ word_in l.fn.words.items p;
  columns : Columns l.words.items (length l.fn.words.items) (length l.values)
      (λ k i. word_in (words_of (local_at l.values i)) k) l.leaf;
}
