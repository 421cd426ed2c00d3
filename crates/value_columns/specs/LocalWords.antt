-- The words of a local value, which are its one row.
use Rattle.std.specs.Prelude.{ℕ, List, [], ◌∷◌, ◌++◌, slice_index_or}
use Rattle.std.specs.Borrow.{Bor}
use Rattle.fc_values.specs.declared.values.Local.{Local}
use Rattle.fc_values.specs.Values.{LocalValue, IntValue, BoolValue, PairValue}
use Rattle.fc_values.specs.Codes.{truth_number}
use Rattle.fc_values.specs.Rows.{locals_of}

-- the leaves of a value in order, a word for each
abbrev pub words_of : LocalValue → List ℕ
words_of (IntValue n) = n ∷ []
words_of (BoolValue b) = truth_number b ∷ []
words_of (PairValue a b) = words_of a ++ words_of b

-- the value behind one of some references
abbrev pub local_at : List (Bor Local) → ℕ → LocalValue
local_at xs i = slice_index_or (locals_of xs) i (IntValue 0)
