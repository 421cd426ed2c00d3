use Rattle.command_frame.proofs.Unfolds.{texts_unfold}
use Rattle.command_frame.proofs.laws.texts_unfold.Goals as goal

pub returns : goal.returns
returns c = texts_unfold c.spans_rise.ensures c.derived_is_printable.ensures c.few_declarations.ensures c.programs_unfold.ensures
