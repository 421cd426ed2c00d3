use Rattle.change_envelopes.proofs.ScenesWithin.{scenes_lie}
use Rattle.change_envelopes.proofs.laws.scenes_lie.Goals as goal

pub returns : goal.returns
returns c = scenes_lie
