use Rattle.command_frame.proofs.OneReading.{one_program_text}
use Rattle.command_frame.proofs.laws.one_program_text.Goals as goal

pub returns : goal.returns
returns c = one_program_text c.one_source.ensures c.typed_or_at_fault.ensures.either c.typed_or_at_fault.ensures.not_both c.one_first_fault.ensures
