use Rattle.edit_commands.proofs.Agreeing.{steps_agree, replays_agree, faults_agree, parts_agree}
use Rattle.edit_commands.proofs.CommandsAgreeing.{commands_agree}
use Rattle.edit_commands.proofs.laws.entries_agree.Goals as goal

pub returns : goal.returns
returns c = record {
  steps = steps_agree;
  replays = replays_agree;
  faults = faults_agree;
  parts = parts_agree;
  commands = commands_agree;
}
