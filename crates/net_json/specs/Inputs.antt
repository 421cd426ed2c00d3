-- The inputs of a device or of a copy.
use Rattle.std.specs.Prelude.{ℕ, Bool, true, ◌&&◌, List, [], ◌∷◌, ◌++◌, length, Option, is_some, option_and_then}
use Rattle.serde_json.specs.Data.{Data}
use Rattle.serde_json.specs.Find.{get}
use Rattle.fc_values.specs.declared.types.InputTy.{InputTy}
use Rattle.fc_values.specs.Types.{Input}
use Rattle.fc_values.specs.Values.{LocalValue}
use Rattle.topology.specs.Inputs.{input_fault}
use Rattle.net_json.specs.Judging.{JudgedScene, Accepted, Misshaped, if_accepted, given, require, no_fault, at_member}
use Rattle.net_json.specs.Reading.{value_of, has_size}

-- the names of some inputs are members of an object
abbrev pub has_names : List Input → Data → Bool
has_names [] d = true
has_names (i ∷ is) d = is_some (get i.name d) && has_names is d

-- an object with exactly the declared names
abbrev pub has_exactly : List Input → Data → Bool
has_exactly is d = has_size (length is) d && has_names is d

-- the value of one input: a value by its form, then of the declared type, then in its range
abbrev pub input_judged : InputTy → List ℕ → Option Data → JudgedScene LocalValue
input_judged ty path d =
    if_accepted (given (Misshaped path) (option_and_then value_of d)) (λ v.
    no_fault (input_fault ty v) path (Accepted v))

-- the values of the inputs one by one, in declared order, behind those before
abbrev pub values_judged : List ℕ → Data → List LocalValue → List Input → JudgedScene (List LocalValue)
values_judged path d before [] = Accepted before
values_judged path d before (i ∷ is) =
    if_accepted (input_judged i.type (at_member path i.name) (get i.name d)) (λ v.
    values_judged path d (before ++ v ∷ []) is)

abbrev pub inputs_judged : List Input → List ℕ → Data → JudgedScene (List LocalValue)
inputs_judged is path d = require (has_exactly is d) (Misshaped path) (values_judged path d [] is)
