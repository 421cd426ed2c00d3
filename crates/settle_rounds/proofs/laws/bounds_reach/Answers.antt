use Rattle.settle_rounds.proofs.ReachFrom.{bounds_reach}
use Rattle.settle_rounds.proofs.laws.bounds_reach.Goals as goal

pub returns : goal.returns
returns c = bounds_reach c.bounds_reach_from.ensures
