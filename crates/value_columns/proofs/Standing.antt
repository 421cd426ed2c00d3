-- Crates above cite this module: where rows stand, and rows that stay.
use Rattle.std.proofs.Common.{◌≡◌, ℕ, ◌+◌, ◌-◌, ◌*◌, ◌<◌, ◌≤◌, List, ◌++◌, length, take, drop, ap, ◌∙◌, arith, inl, inr}
use Rattle.std.proofs.Math.Nat.{mul-add}
use Rattle.std.proofs.lemmas.Nat.{mul-add-lt, mul-le}
use Rattle.std.specs.Prelude.{slice_set}
use Rattle.std.proofs.lemmas.Bool.{cases_lt}
use Rattle.std.proofs.lemmas.List.{get_or-append_right, get_or-drop, get_or-set_same, get_or-set_other, length-take-le}
use Rattle.fc_values.specs.Types.{LocalType, leaves}
use Rattle.value_columns.specs.Columns.{word_in, row_in}
use Rattle.value_columns.proofs.Rows.{some_leaf, same_row, same_word}

-- how the leaves of a pair stand, where so many rows of its first component come first
pub ruleset leaves_fit = (some_leaf, mul-add)

-- a row of a leaf stands within the rows of all leaves
pub leaf_below : (rows i k many : ℕ) → i < rows → k < many → rows * k + i < rows * many
leaf_below rows i k many h l = omega (arith, mul-add-lt k rows i many l h)

-- the leaves in one of some rows are no more than those in all
pub leaves_below : (rows many : ℕ) → 0 < rows → many ≤ rows * many
leaves_below rows many h = omega (arith, mul-le 1 many rows many h (omega arith))

-- each row of the first leaf stands within the rows of all leaves
pub row_within : (t : LocalType) (rows at i n : ℕ) → at + rows * leaves t ≤ n → i < rows → at + i < n
row_within t rows at i n h l = omega (arith, leaf_below rows i 0 (leaves t) l (some_leaf t))

-- a leaf of a row of which the last one stands within some words
pub leaf_within : (first step many leaf n : ℕ) → first + step * many < n + step → leaf < many → first + step * leaf < n
leaf_within first step many leaf n h l =
    let next : step * (leaf + 1) ≤ step * many = mul-le step (leaf + 1) step many (omega arith) (omega arith) in
    omega arith

-- as many words from a place on, where the row stands there or behind it
pub row_fits : (at first step many n : ℕ) → at ≤ first → 0 < step → 0 < many → first + step * many < n + step
    → at + many ≤ n
row_fits at first step many n h p m l =
    let last = leaf_within first step many (many - 1) n l (omega arith) in
    omega (arith, leaves_below step (many - 1) p)

-- one more leaf of a row, moved down
pub leaf_moved : (old mid : List ℕ) (at first step leaf w : ℕ) → at + leaf < length mid
    → w ≡ word_in old (first + step * leaf)
    → ((k : ℕ) → k < leaf → word_in mid (at + k) ≡ word_in old (first + step * k)) → (k : ℕ) → k < leaf + 1
    → word_in (slice_set mid (at + leaf) w) (at + k) ≡ word_in old (first + step * k)
leaf_moved old mid at first step leaf w h e so_far k l =
    elim (cases_lt k leaf) [ inl b ↦ before b | inr b ↦ rw (is_last b) last ]
  where
    before : k < leaf → word_in (slice_set mid (at + leaf) w) (at + k) ≡ word_in old (first + step * k)
    before b = get_or-set_other mid (at + leaf) (at + k) w 0 (λ f. omega arith) ∙ so_far k b

    is_last : leaf ≤ k → k ≡ leaf
    is_last b = omega arith

    last : word_in (slice_set mid (at + leaf) w) (at + leaf) ≡ word_in old (first + step * leaf)
    last = get_or-set_same mid (at + leaf) w 0 h ∙ e

-- a row below a place reads the same where the words below that place stay
pub row_stays : (ws vs : List ℕ) (t : LocalType) (rows at i n : ℕ) → i < rows → at + rows * leaves t ≤ n
    → ((p : ℕ) → p < n → word_in vs p ≡ word_in ws p) → row_in vs t rows at i ≡ row_in ws t rows at i
row_stays ws vs t rows at i n h l same = same_row t vs ws rows rows at at i i
    (λ k b. same (at + rows * k + i) (omega (arith, leaf_below rows i k (leaves t) h b)))

-- a word behind a gap that was closed
pub word_moves : (ws vs : List ℕ) (n many p : ℕ) → n + many ≤ length ws → vs ≡ take n ws ++ drop (n + many) ws → n ≤ p
    → word_in vs p ≡ word_in ws (p + many)
word_moves ws vs n many p l e h =
    ap (λ xs. word_in xs p) e
    ∙ (get_or-append_right (take n ws) (drop (n + many) ws) n p 0 (length-take-le n ws (omega arith)) h
    ∙ (get_or-drop (n + many) ws (p - n) 0 ∙ same_word ws (n + many + (p - n)) (p + many) (omega arith)))

-- a row behind a gap that was closed
pub row_moves : (ws vs : List ℕ) (t : LocalType) (rows at i n many : ℕ) → n + many ≤ length ws
    → vs ≡ take n ws ++ drop (n + many) ws → n ≤ at → row_in vs t rows at i ≡ row_in ws t rows (at + many) i
row_moves ws vs t rows at i n many l e h = same_row t vs ws rows rows at (at + many) i i
    (λ k b. word_moves ws vs n many (at + rows * k + i) l e (omega arith)
    ∙ same_word ws (at + rows * k + i + many) (at + many + rows * k + i) (omega arith))
