-- The arguments of an operator at a position of the entries of the fields among them.
use Rattle.std.specs.Prelude.{ℕ, ◌<◌, List, [], ◌∷◌, length, slice_index_or, Option, option_and_then}
use Rattle.fc_values.specs.declared.builtins.Builtin.{Builtin}
use Rattle.fc_values.specs.Values.{LocalValue, IntValue}
use Rattle.fc_values.specs.Fields.{AnyValue, ValueLocal, ValueField}
use Rattle.fc_values.specs.Builtins.{arguments_at, local_value}

-- a field has an entry at the position
abbrev pub HasPosition : ℕ → AnyValue → Type 0
HasPosition i (ValueLocal v) = Unit {0}
HasPosition i (ValueField es) = i < length es

abbrev pub HavePosition : ℕ → List AnyValue → Type 0
HavePosition i [] = Unit {0}
HavePosition i (x ∷ xs) = HasPosition i x × HavePosition i xs

-- an argument at a position; a local value stands for itself
abbrev pub argument_nth : ℕ → AnyValue → LocalValue
argument_nth i (ValueLocal v) = v
argument_nth i (ValueField es) = (slice_index_or es i (0, IntValue 0)).1

-- the arguments at a position
abbrev pub arguments_nth : ℕ → List AnyValue → List LocalValue
arguments_nth i [] = []
arguments_nth i (x ∷ xs) = argument_nth i x ∷ arguments_nth i xs

-- the value of an operator on the arguments at a device
abbrev pub value_over : Builtin → ℕ → List AnyValue → ℕ → Option LocalValue
value_over builtin ceiling xs d = option_and_then (local_value builtin ceiling) (arguments_at d xs)
