use Rattle.change_envelopes.proofs.MayHappen.{lines_may_happen}
use Rattle.change_envelopes.proofs.laws.lines_may_happen.Goals as goal

pub returns : goal.returns
returns c = lines_may_happen
