-- Values as columns of words. Each leaf of a value, a whole number or a truth value, is one word: a truth value is 0 or
-- 1. What has several rows (a field, with one row for each of its devices) stands leaf by leaf: first the words of the
-- first leaf in all rows, then those of the next one.
use Rattle.std.specs.Prelude.{ℕ, Bool, not, nat_eq, ◌+◌, ◌*◌, ◌<◌, List, [], ◌∷◌, slice_index_or}
use Rattle.fc_values.specs.Types.{LocalType, IntType, BoolType, PairType, leaves}
use Rattle.fc_values.specs.Values.{LocalValue, IntValue, BoolValue, PairValue}
use Rattle.fc_values.specs.Fields.{Entries}

-- the word at a place
abbrev pub word_in : List ℕ → ℕ → ℕ
word_in ws i = slice_index_or ws i 0

-- the truth value that a word stands for: 0 is false
abbrev pub truth_of : ℕ → Bool
truth_of w = not (nat_eq w 0)

-- the value in a row, where so many rows of values of a type stand from a place on
abbrev pub row_in : List ℕ → LocalType → ℕ → ℕ → ℕ → LocalValue
row_in ws IntType rows at i = IntValue (word_in ws (at + i))
row_in ws BoolType rows at i = BoolValue (truth_of (word_in ws (at + i)))
row_in ws (PairType s t) rows at i = PairValue (row_in ws s rows at i) (row_in ws t rows (at + rows * leaves s) i)

-- a local value: one row
abbrev pub local_in : List ℕ → LocalType → ℕ → LocalValue
local_in ws t at = row_in ws t 1 at 0

-- the values in the rows from one on, for some devices in order
abbrev pub entries_in : List ℕ → LocalType → ℕ → ℕ → ℕ → List ℕ → Entries
entries_in ws t rows at i [] = []
entries_in ws t rows at i (d ∷ ds) = (d, row_in ws t rows at i) ∷ entries_in ws t rows at (i + 1) ds

-- so many leaves of a row, the first of which stands at a place, are within a number of words
abbrev pub StandsBelow : ℕ → ℕ → ℕ → ℕ → Type 0
StandsBelow count width rows place = (k : ℕ) → k < width → place + rows * k < count
