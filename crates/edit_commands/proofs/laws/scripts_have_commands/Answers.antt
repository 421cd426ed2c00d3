use Rattle.edit_commands.proofs.CommandsOfScripts.{scripts_have_commands}
use Rattle.edit_commands.proofs.laws.scripts_have_commands.Goals as goal

pub returns : goal.returns
returns c = scripts_have_commands c.lists_have_exports.ensures
