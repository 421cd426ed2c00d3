use Rattle.std.proofs.Common.{◌∙◌, ap, refl, map}
use Rattle.fc_values.specs.declared.types.InputDecl.{InputDecl}
use Rattle.fc_values.specs.Types.{Declarations, input_of, input_type}
use Rattle.firing_core.proofs.RoomSteps.{declared_forms}
use Rattle.firing_core.proofs.rooms.blank_copy.Goals as goal

pub returns : goal.returns
returns c = record {
  inputs = c.in_ok-inputs.ensures
      ∙ ap (map (λ (i : InputDecl). input_type (input_of i).type)) c.deref.ensures.value
      ∙ declared_forms c.args.program.now.declared c.declared.result.now.inputs.items (ap (λ (d : Declarations). d.inputs) c.declared.ensures.value);
  own = refl;
  near = c.in_ok-near.ensures.items;
  wide = c.in_ok-near.ensures.capacity;
}
