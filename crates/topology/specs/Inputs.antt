-- Why values don't fit the declared inputs.
use Rattle.std.specs.Prelude.{◌&&◌, List, [], ◌∷◌, nat_le, if◌then◌else◌, Option, Some, None}
use Rattle.fc_values.specs.declared.types.InputTy.{InputTy}
use Rattle.fc_values.specs.declared.types.InputTy.TheVariants as input
use Rattle.fc_values.specs.Types.{Input}
use Rattle.fc_values.specs.Values.{LocalValue, IntValue, BoolValue, PairValue}
use Rattle.topology.specs.declared.types.NetFault.{NetFault}
use Rattle.topology.specs.declared.types.NetFault.TheVariants as fault

-- why a value doesn't fit an input: it has another type, or it is outside the range
abbrev pub input_fault : InputTy → LocalValue → Option NetFault
input_fault input.Truth (IntValue n) = Some fault.InputType
input_fault input.Truth (BoolValue b) = None
input_fault input.Truth (PairValue a b) = Some fault.InputType
input_fault (input.Whole least greatest) (IntValue n) =
    if nat_le least n && nat_le n greatest then None else Some fault.InputRange
input_fault (input.Whole least greatest) (BoolValue b) = Some fault.InputType
input_fault (input.Whole least greatest) (PairValue a b) = Some fault.InputType

-- the first of two faults
abbrev pub or_fault : {F : Type 0} → Option F → Option F → Option F
or_fault None g = g
or_fault (Some f) g = Some f

-- the fault of the first value that doesn't fit its input
abbrev pub inputs_fault : List Input → List LocalValue → Option NetFault
inputs_fault [] vs = None
inputs_fault (i ∷ is) [] = None
inputs_fault (i ∷ is) (v ∷ vs) = or_fault (input_fault i.type v) (inputs_fault is vs)
