use Rattle.command_frame.proofs.GoodStart.{inputs_start}
use Rattle.command_frame.proofs.laws.inputs_start.Goals as goal

pub returns : goal.returns
returns c = inputs_start c.accepted_scenes_fit.ensures
