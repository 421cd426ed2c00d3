-- The arguments of an operator as columns, one after another, and the value that stands in their place afterwards.
use Rattle.std.specs.Prelude.{ℕ, ◌+◌, ◌*◌, ◌<◌, ◌≡◌, List, [], ◌∷◌, map, Option, Some, Bool, if◌then◌else◌}
use Rattle.std.specs.Borrow.{Bor}
use Rattle.fc_values.specs.declared.types.LocalTy.{LocalTy}
use Rattle.fc_values.specs.Types.{LocalType, leaves, local_type_of}
use Rattle.fc_values.specs.Values.{LocalValue, greater, lesser}
use Rattle.value_columns.specs.Columns.{row_in, word_in}

-- the types behind a row of references
abbrev pub types_in : List (Bor LocalTy) → List LocalType
types_in tys = map (λ (r : Bor LocalTy). local_type_of r.now) tys

-- how many leaves the values of some types hold together
abbrev pub leaves_of : List LocalType → ℕ
leaves_of [] = 0
leaves_of (t ∷ ts) = leaves t + leaves_of ts

-- the arguments in a row, where so many rows of each stand one after another from a place on
abbrev pub arguments_in : List ℕ → List LocalType → ℕ → ℕ → ℕ → List LocalValue
arguments_in ws [] rows at i = []
arguments_in ws (t ∷ ts) rows at i = row_in ws t rows at i ∷ arguments_in ws ts rows (at + rows * leaves t) i

-- the greater, or the lesser, of two values
abbrev pub kept : Bool → LocalValue → LocalValue → LocalValue
kept greatest a b = if greatest then greater a b else lesser a b

-- In each row the value of a function of the arguments stands where they stood. What is before that place stays.
pub record Makes (f : List LocalValue → Option LocalValue) (ts : List LocalType) (t : LocalType) (rows at : ℕ)
    (old new : List ℕ) : Type 0 where
  pub values : (i : ℕ) → i < rows → f (arguments_in old ts rows at i) ≡ Some (row_in new t rows at i)
  pub before : (p : ℕ) → p < at → word_in new p ≡ word_in old p
