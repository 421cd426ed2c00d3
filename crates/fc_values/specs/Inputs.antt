-- Values of the declared inputs.
use Rattle.std.specs.Prelude.{◌≤◌, List, [], ◌∷◌}
use Rattle.fc_values.specs.declared.types.InputTy.{InputTy}
use Rattle.fc_values.specs.declared.types.InputTy.TheVariants as input
use Rattle.fc_values.specs.Types.{Input}
use Rattle.fc_values.specs.Values.{LocalValue, IntValue, BoolValue}

-- a value of an input: a truth value, or an integer in the declared range
abbrev pub InputFits : InputTy → LocalValue → Type 0
InputFits input.Truth (BoolValue b) = Unit {0}
InputFits (input.Whole least greatest) (IntValue n) = (least ≤ n) × (n ≤ greatest)
InputFits _ _ = ⊥

-- as many values as inputs, each of its input
abbrev pub InputsFit : List Input → List LocalValue → Type 0
InputsFit [] [] = Unit {0}
InputsFit (i ∷ is) (v ∷ vs) = InputFits i.type v × InputsFit is vs
InputsFit _ _ = ⊥
