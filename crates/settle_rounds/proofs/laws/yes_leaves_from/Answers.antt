use Rattle.settle_rounds.proofs.Yes.{yes_leaves_from}
use Rattle.settle_rounds.proofs.laws.yes_leaves_from.Goals as goal

pub returns : goal.returns
returns c = yes_leaves_from c.faultless_steps.ensures.copy c.yes_raises_levels.ensures
