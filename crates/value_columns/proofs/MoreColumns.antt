-- one more column behind others
use Rattle.std.proofs.Common.{◌≡◌, ℕ, ◌+◌, ◌*◌, ◌<◌, ◌≤◌, inl, inr, List, length, ◌∙◌, arith}
use Rattle.std.proofs.lemmas.Bool.{cases_lt}
use Rattle.value_columns.specs.Columns.{word_in}
use Rattle.value_columns.proofs.Rows.{same_word}
use Rattle.value_columns.proofs.Standing.{leaf_below}

-- from a place on stand the columns of so many rows, in which the words of the first leaves are these
abbrev pub Columns : List ℕ → ℕ → ℕ → (ℕ → ℕ → ℕ) → ℕ → Type 0
Columns ws at rows f leaf = (k j : ℕ) → k < leaf → j < rows → word_in ws (at + rows * k + j) ≡ f k j

pub one_column : (old new : List ℕ) (at rows : ℕ) (f : ℕ → ℕ → ℕ) (leaf : ℕ) → length old ≡ at + rows * leaf
    → Columns old at rows f leaf → ((p : ℕ) → p < length old → word_in new p ≡ word_in old p)
    → ((j : ℕ) → j < rows → word_in new (length old + j) ≡ f leaf j) → Columns new at rows f (leaf + 1)
one_column old new at rows f leaf long so_far stay column k j a b =
    elim (cases_lt k leaf) [ inl h ↦ before h | inr h ↦ rw (is_last h) last ]
  where
    before : k < leaf → word_in new (at + rows * k + j) ≡ f k j
    before h =
        let earlier = leaf_below rows j k leaf b h in
        stay (at + rows * k + j) (omega (arith, earlier)) ∙ so_far k j h b

    is_last : leaf ≤ k → k ≡ leaf
    is_last h = omega arith

    last : word_in new (at + rows * leaf + j) ≡ f leaf j
    last = same_word new (at + rows * leaf + j) (length old + j) (omega arith) ∙ column j b
