use Rattle.std.proofs.Common.{◌≡◌, map, take}
use Rattle.fc_values.specs.Types.{input_of, input_type}
use Rattle.fc_values.specs.declared.types.InputDecl.{InputDecl}
use Rattle.firing_core.specs.Rooms.{types_of}
use Rattle.firing_core.proofs.rooms.blank_inputs.Given as goal

abbrev pub invariant-loop-input : goal.invariant-loop-input
invariant-loop-input l = types_of l.values.items ≡ map (λ (i : InputDecl). input_type (input_of i).type) (take l.input-index l.inputs)
