use Rattle.std.proofs.Common.{◌≡◌, ◌+◌, ◌*◌, ◌<◌, ℕ, length}
use Rattle.value_columns.specs.Columns.{word_in}
use Rattle.value_columns.proofs.copies.spread.Given as goal

abbrev pub invariant-loop-leaf : goal.invariant-loop-leaf
invariant-loop-leaf l = record {
  long : length l.words.items ≡ length l.fn.words.items + l.rows * l.leaf;
  stay : (p : ℕ) → p < length l.fn.words.items → word_in l.words.items p ≡ word_in l.fn.words.items p;
  added : (k : ℕ) → k < l.leaf → (i : ℕ) → i < l.rows →
      word_in l.words.items (length l.fn.words.items + (l.rows * k + i)) ≡ word_in l.fn.words.items (l.at + k);
}
