-- Crates above cite this module: what a row holds depends on the words of its leaves alone.
use Rattle.std.proofs.Common.{◌≡◌, ℕ, ◌+◌, ◌*◌, ◌<◌, ◌≤◌, ◌≢◌, ◌%◌, List, ◌++◌, length, take, drop, Bool, true, false, if◌then◌else◌, sym, ap, ◌∙◌, below_more, arith}
use Rattle.std.proofs.Math.Arith.{digits_mod}
use Rattle.std.proofs.Math.Nat.{mul-le-mul_left}
use Rattle.std.proofs.lemmas.List.{get_or_append_left, get_or-take, length-append, length-drop, length-take-le}
use Rattle.fc_values.specs.Types.{LocalType, IntType, BoolType, PairType, leaves}
use Rattle.fc_values.specs.Values.{LocalValue, IntValue, BoolValue}
use Rattle.value_columns.specs.Columns.{word_in, truth_of, row_in, StandsBelow}

pub same_word : (ws : List ℕ) (p q : ℕ) → p ≡ q → word_in ws p ≡ word_in ws q
same_word ws p q e = ap (word_in ws) e

-- a type has a leaf
pub some_leaf : (t : LocalType) → 0 < leaves t
some_leaf IntType = omega arith
some_leaf BoolType = omega arith
some_leaf (PairType s t) = omega (arith, some_leaf s)

-- rows whose leaves are the same words hold the same value
pub same_row : (t : LocalType) (xs ys : List ℕ) (m n at to i j : ℕ) →
    ((k : ℕ) → k < leaves t → word_in xs (at + m * k + i) ≡ word_in ys (to + n * k + j)) →
    row_in xs t m at i ≡ row_in ys t n to j
same_row IntType xs ys m n at to i j same =
    ap IntValue (same_word xs (at + i) (at + m * 0 + i) (omega arith)
    ∙ same 0 (omega arith) ∙ same_word ys (to + n * 0 + j) (to + j) (omega arith))
same_row BoolType xs ys m n at to i j same =
    ap (λ w. BoolValue (truth_of w)) (same_word xs (at + i) (at + m * 0 + i) (omega arith)
    ∙ same 0 (omega arith) ∙ same_word ys (to + n * 0 + j) (to + j) (omega arith))
same_row (PairType s t) xs ys m n at to i j same =
    let first = same_row s xs ys m n at to i j (λ k h. same k (omega arith)) in
    let second = same_row t xs ys m n (at + m * leaves s) (to + n * leaves s) i j
    (λ k h. same_word xs _ (at + m * (leaves s + k) + i) (omega arith) ∙ same (leaves s + k) (omega arith)
    ∙ same_word ys (to + n * (leaves s + k) + j) _ (omega arith)) in
    cc

-- words of two rows stand apart
pub rows_apart : (rows at k m i j : ℕ) → i < rows → j < rows → j ≢ i → at + rows * k + j ≢ at + rows * m + i
rows_apart rows at k m i j p q other e = other (sym (digits_mod k q) ∙ ap (λ x. x % rows) h ∙ digits_mod m p)
  where
    h : k * rows + j ≡ m * rows + i
    h = omega arith

-- a later leaf stands further on
pub leaves_rise : (rows k m : ℕ) → 0 < rows → k < m → rows * k < rows * m
leaves_rise rows k m p q = let h : k + 1 ≤ m = omega arith in omega (arith, mul-le-mul_left rows h)

-- a row whose last leaf stands among some words
pub stands_below : (count width leaves_there rows step from : ℕ) → width ≡ leaves_there → step ≡ rows →
    from + step * leaves_there < count + step → StandsBelow count width rows from
stands_below count width leaves_there rows step from p q stands k h =
    let same : step * leaves_there ≡ rows * width = ap (λ n. n * leaves_there) q ∙ ap (λ n. rows * n) (sym p) in
    omega (arith, mul-le-mul_left rows (next k width h))
  where
    next : (m n : ℕ) → m < n → m + 1 ≤ n
    next m n q = omega arith

-- a row of what stands within some words
pub row_stands : (count width rows at i : ℕ) → i < rows → at + rows * width ≤ count → StandsBelow count width rows (at + i)
row_stands count width rows at i p within k h = omega (arith, mul-le-mul_left rows (next k width h))
  where
    next : (m n : ℕ) → m < n → m + 1 ≤ n
    next m n q = omega arith

-- a row from its first leaf on
pub row_from : (t : LocalType) (ws : List ℕ) (rows at i : ℕ) → row_in ws t rows (at + i) 0 ≡ row_in ws t rows at i
row_from t ws rows at i = same_row t ws ws rows rows (at + i) at 0 i (λ k h. same_word ws _ _ (omega arith))

-- a row of which no leaf was written
pub row_after : (t : LocalType) (xs ys : List ℕ) (rows from at i : ℕ) → from ≤ at + i → ((p : ℕ) → from ≤ p → word_in xs p ≡ word_in ys p) →
    row_in xs t rows (at + i) 0 ≡ row_in ys t rows at i
row_after t xs ys rows from at i p same =
    same_row t xs ys rows rows (at + i) at 0 i
    (λ k h. same_word xs _ (at + rows * k + i) (omega arith) ∙ same (at + rows * k + i) (omega arith))

-- a row that was copied
pub copied_row : (t : LocalType) (xs ys zs : List ℕ) (rows width at from i : ℕ) → width ≡ leaves t →
    ((k : ℕ) → k < width → word_in ys (at + i + rows * k) ≡ word_in xs (from + i + rows * k)) →
    ((k : ℕ) → word_in xs (from + rows * k + i) ≡ word_in zs (from + rows * k + i)) →
    row_in ys t rows at i ≡ row_in zs t rows from i
copied_row t xs ys zs rows width at from i e copied same =
    same_row t ys zs rows rows at from i i
    (λ k h. same_word ys _ (at + i + rows * k) (omega arith) ∙ copied k (omega arith)
    ∙ same_word xs _ (from + rows * k + i) (omega arith) ∙ same k)

-- a row stays where the leaves of another one are written
pub row_untouched : (t : LocalType) (xs ys : List ℕ) (rows width at i j : ℕ) → i < rows → j < rows → j ≢ i →
    ((p : ℕ) → ((k : ℕ) → k < width → p ≢ at + i + rows * k) → word_in ys p ≡ word_in xs p) →
    (k : ℕ) → word_in ys (at + rows * k + j) ≡ word_in xs (at + rows * k + j)
row_untouched t xs ys rows width at i j p q other same k =
    same (at + rows * k + j) (λ m h e. absurd (rows_apart rows at k m i j p q other (e ∙ place m)))
  where
    place : (m : ℕ) → at + i + rows * m ≡ at + rows * m + i
    place m = omega arith

-- a row that was copied, from its first leaf on
pub copied_place : (t : LocalType) (xs ys : List ℕ) (rows width from to : ℕ) → width ≡ leaves t →
    ((k : ℕ) → k < width → word_in ys (to + rows * k) ≡ word_in xs (from + rows * k)) →
    row_in ys t rows to 0 ≡ row_in xs t rows from 0
copied_place t xs ys rows width from to e copied =
    same_row t ys xs rows rows to from 0 0
    (λ k h. same_word ys _ (to + rows * k) (omega arith) ∙ copied k (omega arith)
    ∙ same_word xs _ (from + rows * k + 0) (omega arith))

-- a row of which no leaf was written, where so many leaves stand before it
pub unread_row : (t : LocalType) (xs zs : List ℕ) (rows at width from i : ℕ) → from ≡ at + rows * width →
    ((k : ℕ) → word_in xs (at + rows * k + i) ≡ word_in zs (at + rows * k + i)) →
    row_in xs t rows (from + i) 0 ≡ row_in zs t rows from i
unread_row t xs zs rows at width from i e same =
    same_row t xs zs rows rows (from + i) from 0 i
    (λ k h. same_word xs _ (at + rows * (width + k) + i) (omega arith) ∙ same (width + k)
    ∙ same_word zs (at + rows * (width + k) + i) _ (omega arith))

-- the row of which a truth value says whether it is the first
pub chosen_row : (t : LocalType) (xs zs : List ℕ) (rows at width second chosen i : ℕ) (b : Bool) → second ≡ at + rows + rows * width →
    chosen ≡ (if b then at + rows else second) →
    ((k : ℕ) → word_in xs (at + rows * k + i) ≡ word_in zs (at + rows * k + i)) →
    row_in xs t rows (chosen + i) 0 ≡ (if b then row_in zs t rows (at + rows) i else row_in zs t rows second i)
chosen_row t xs zs rows at width second chosen i true p e same =
    rw e (unread_row t xs zs rows at 1 (at + rows) i (omega arith) same)
chosen_row t xs zs rows at width second chosen i false p e same =
    rw e (unread_row t xs zs rows at (1 + width) second i (omega arith) same)

-- A loop over rows, each of which writes the leaves of its own row alone.
module _ (t : LocalType) (xs ys zs : List ℕ) (rows width at i : ℕ) (value : ℕ → LocalValue) (inside : i < rows)
    (others : (p : ℕ) → ((k : ℕ) → k < width → p ≢ at + i + rows * k) → word_in ys p ≡ word_in xs p) where
  pub values_more : ((j : ℕ) → j < i → row_in xs t rows at j ≡ value j) → row_in ys t rows (at + i) 0 ≡ value i →
      (j : ℕ) → j < i + 1 → row_in ys t rows at j ≡ value j
  values_more below here =
      below_more (λ j. row_in ys t rows at j ≡ value j) i
      (λ j h. same_row t ys xs rows rows at at j j
      (λ k l. row_untouched t xs ys rows width at i j inside (omega arith) (λ e. absurd (omega arith)) others k)
      ∙ below j h)
      (sym (row_from t ys rows at i) ∙ here)

  pub before_more : ((p : ℕ) → p < at → word_in xs p ≡ word_in zs p) → (p : ℕ) → p < at → word_in ys p ≡ word_in zs p
  before_more before p h = others p (λ k l e. absurd (omega arith)) ∙ before p h

  pub rest_more : ((j : ℕ) → i ≤ j → j < rows → (k : ℕ) → word_in xs (at + rows * k + j) ≡ word_in zs (at + rows * k + j)) →
      (j : ℕ) → i + 1 ≤ j → j < rows → (k : ℕ) → word_in ys (at + rows * k + j) ≡ word_in zs (at + rows * k + j)
  rest_more rest j p q k =
      row_untouched t xs ys rows width at i j inside q (λ e. absurd (omega arith)) others k ∙ rest j (omega arith) q k

-- a word before a gap that was closed
pub word_before_gap : (ws vs : List ℕ) (n many p : ℕ) → n + many ≤ length ws → vs ≡ take n ws ++ drop (n + many) ws → p < n
    → word_in vs p ≡ word_in ws p
word_before_gap ws vs n many p l e h =
    ap (λ xs. word_in xs p) e
    ∙ get_or_append_left (take n ws) (drop (n + many) ws) 0 p (omega (arith, length-take-le n ws (omega arith)))
    ∙ get_or-take n ws p 0 h

-- how many words are left where a gap was closed
pub length_after_gap : (ws vs : List ℕ) (n many : ℕ) → n + many ≤ length ws → vs ≡ take n ws ++ drop (n + many) ws
    → length vs + many ≡ length ws
length_after_gap ws vs n many l e =
    omega (arith, simp (length-append, length-drop) at (ap length e), length-take-le n ws (omega arith))
