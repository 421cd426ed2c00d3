-- Types, and the declarations of a program.
use Rattle.std.specs.Prelude.{ℕ, ◌+◌, ◌≤◌, List, map}
use Rattle.fc_values.specs.declared.types.LocalTy.{LocalTy}
use Rattle.fc_values.specs.declared.types.LocalTy.TheVariants as ty
use Rattle.fc_values.specs.declared.types.Ty.{Ty}
use Rattle.fc_values.specs.declared.types.Ty.TheVariants as anyty
use Rattle.fc_values.specs.declared.types.InputTy.{InputTy}
use Rattle.fc_values.specs.declared.types.InputTy.TheVariants as input
use Rattle.fc_values.specs.declared.types.InputDecl.{InputDecl}
use Rattle.fc_values.specs.declared.types.Declared.{Declared}

-- the types of local values: whole numbers, truth values and pairs
pub data LocalType : Type 0 where
  IntType : LocalType
  BoolType : LocalType
  PairType : LocalType → LocalType → LocalType

-- the types of values: a local value, or a field of local values
pub data ValueType : Type 0 where
  TypeLocal : LocalType → ValueType
  TypeField : LocalType → ValueType

abbrev pub local_type_of : LocalTy → LocalType
local_type_of ty.Int = IntType
local_type_of ty.Bool = BoolType
local_type_of (ty.Pair' p a q b) = PairType (local_type_of a) (local_type_of b)

abbrev pub type_of : Ty → ValueType
type_of (anyty.Local t) = TypeLocal (local_type_of t)
type_of (anyty.Field t) = TypeField (local_type_of t)

-- how many whole numbers and truth values a value of a type holds
abbrev pub leaves : LocalType → ℕ
leaves IntType = 1
leaves BoolType = 1
leaves (PairType s t) = leaves s + leaves t

-- a declared input: its name, and its type with the range of its values
pub record Input : Type 0 where
  pub name : List ℕ
  pub type : InputTy

abbrev pub input_of : InputDecl → Input
input_of i = record { name = i.name.text.items; type = i.ty }

-- the local type of an input's values
abbrev pub input_type : InputTy → LocalType
input_type input.Truth = BoolType
input_type (input.Whole least greatest) = IntType

-- a range of integers, within those of a program
abbrev pub IsRange : ℕ → ℕ → ℕ → Type 0
IsRange ceiling least greatest = (least ≤ greatest) × (greatest ≤ ceiling)

-- what a program declares: the greatest integer, the inputs in order, and the least and greatest weight of a link
pub record Declarations : Type 0 where
  pub ceiling : ℕ
  pub inputs : List Input
  pub least : ℕ
  pub greatest : ℕ

abbrev pub declarations_of : Declared → Declarations
declarations_of d =
    record { ceiling = d.ceiling; inputs = map input_of d.inputs.items; least = d.metric.0; greatest = d.metric.1 }
