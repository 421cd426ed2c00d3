use Rattle.command_frame.proofs.OneReading.{one_input}
use Rattle.command_frame.proofs.laws.one_input.Goals as goal

pub returns : goal.returns
returns c = one_input c.one_program_text.ensures
