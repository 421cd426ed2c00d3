use Rattle.edit_commands.proofs.ValueTexts.{values_read}
use Rattle.edit_commands.proofs.laws.values_are_read.Goals as goal

pub returns : goal.returns
returns c = values_read
