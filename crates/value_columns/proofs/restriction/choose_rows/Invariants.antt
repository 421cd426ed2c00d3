use Rattle.std.proofs.Common.{◌≡◌, ◌+◌, ◌*◌, ◌<◌, ℕ, length}
use Rattle.value_columns.specs.Columns.{word_in}
use Rattle.value_columns.proofs.MoreColumns.{Columns}
use Rattle.value_columns.proofs.restriction.choose_rows.Given as goal

abbrev pub invariant-loop-leaf : goal.invariant-loop-leaf
invariant-loop-leaf l = record {
  long : length l.words.items ≡ length l.fn.words.items + length l.kept * l.leaf;
  stay : (p : ℕ) → p < length l.fn.words.items → word_in l.words.items p ≡ word_in l.fn.words.items p;
  chosen : Columns l.words.items (length l.fn.words.items) (length l.kept)
      (λ k j. word_in l.fn.words.items (l.at + l.rows * k + word_in l.kept j)) l.leaf;
}
