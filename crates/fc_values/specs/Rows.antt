-- The arguments of an operator on local values, as a row of references, and which arguments the builtins take.
use Rattle.std.specs.Prelude.{List, [], ◌∷◌, map}
use Rattle.std.specs.Borrow.{Bor}
use Rattle.fc_values.specs.declared.values.Local.{Local}
use Rattle.fc_values.specs.Values.{LocalValue, IntValue, BoolValue, PairValue, local_of}
use Rattle.fc_values.specs.Fields.{AnyValue, ValueLocal, ValueField}

-- the values of a row
abbrev pub locals_of : List (Bor Local) → List LocalValue
locals_of xs = map (λ (r : Bor Local). local_of r.now) xs

-- a whole number
abbrev pub IsInteger : LocalValue → Type 0
IsInteger (IntValue n) = Unit {0}
IsInteger _ = ⊥

-- a truth value
abbrev pub IsTruthValue : LocalValue → Type 0
IsTruthValue (BoolValue b) = Unit {0}
IsTruthValue _ = ⊥

-- a pair
abbrev pub IsPairValue : LocalValue → Type 0
IsPairValue (PairValue a b) = Unit {0}
IsPairValue _ = ⊥

-- two integers
abbrev pub AreTwoIntegers : List LocalValue → Type 0
AreTwoIntegers (a ∷ b ∷ []) = IsInteger a × IsInteger b
AreTwoIntegers _ = ⊥

-- three integers
abbrev pub AreThreeIntegers : List LocalValue → Type 0
AreThreeIntegers (a ∷ b ∷ c ∷ []) = IsInteger a × IsInteger b × IsInteger c
AreThreeIntegers _ = ⊥

-- one truth value
abbrev pub IsTruth : List LocalValue → Type 0
IsTruth (a ∷ []) = IsTruthValue a
IsTruth _ = ⊥

-- two truth values
abbrev pub AreTwoTruths : List LocalValue → Type 0
AreTwoTruths (a ∷ b ∷ []) = IsTruthValue a × IsTruthValue b
AreTwoTruths _ = ⊥

-- two values of any form
abbrev pub AreTwo : List LocalValue → Type 0
AreTwo (a ∷ b ∷ []) = Unit {0}
AreTwo _ = ⊥

-- one pair
abbrev pub IsPair : List LocalValue → Type 0
IsPair (a ∷ []) = IsPairValue a
IsPair _ = ⊥

-- a truth value, and two values to choose from
abbrev pub IsChoice : List LocalValue → Type 0
IsChoice (c ∷ a ∷ b ∷ []) = IsTruthValue c
IsChoice _ = ⊥

-- the first of a row, and 0 where it is empty
abbrev pub head_of : List LocalValue → LocalValue
head_of [] = IntValue 0
head_of (x ∷ xs) = x

-- a row without its first
abbrev pub tail_of : List LocalValue → List LocalValue
tail_of [] = []
tail_of (x ∷ xs) = xs

-- a field and a local value
abbrev pub AreFieldAndLocal : List AnyValue → Type 0
AreFieldAndLocal (ValueField es ∷ ValueLocal v ∷ []) = Unit {0}
AreFieldAndLocal _ = ⊥

-- one field
abbrev pub IsField : List AnyValue → Type 0
IsField (ValueField es ∷ []) = Unit {0}
IsField _ = ⊥
