use Rattle.settle_rounds.proofs.Yes.{yes_leaves}
use Rattle.settle_rounds.proofs.laws.yes_leaves.Goals as goal

pub returns : goal.returns
returns c = yes_leaves c.yes_leaves_from.ensures
