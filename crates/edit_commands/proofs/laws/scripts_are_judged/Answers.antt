use Rattle.edit_commands.proofs.ScriptsJudged.{scripts_judged}
use Rattle.edit_commands.proofs.laws.scripts_are_judged.Goals as goal

pub returns : goal.returns
returns c = scripts_judged
