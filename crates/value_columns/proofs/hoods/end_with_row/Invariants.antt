use Rattle.std.proofs.Common.{◌≡◌, ◌+◌, ◌*◌, ◌<◌, ◌≤◌, ℕ, length}
use Rattle.value_columns.specs.Columns.{word_in}
use Rattle.value_columns.proofs.hoods.end_with_row.Given as goal

abbrev pub invariant-loop-leaf : goal.invariant-loop-leaf
invariant-loop-leaf l = record {
  long : length l.words.items ≡ length l.fn.words.items;
  before : (p : ℕ) → p < l.at → word_in l.words.items p ≡ word_in l.fn.words.items p;
  leaves : (k : ℕ) → k < l.leaf →
      word_in l.words.items (l.at + k) ≡ word_in l.fn.words.items (l.row.first + l.row.step * k);
  unread : (p : ℕ) → l.at + l.leaf ≤ p → word_in l.words.items p ≡ word_in l.fn.words.items p;
}
