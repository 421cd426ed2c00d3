use Rattle.command_frame.proofs.InputNames.{names_inputs}
use Rattle.command_frame.proofs.laws.texts_name_inputs.Goals as goal

pub returns : goal.returns
returns c = names_inputs c.derived_is_printable.ensures
