use Rattle.settle_rounds.proofs.ReachFrom.{bounds_reach_from}
use Rattle.settle_rounds.proofs.laws.bounds_reach_from.Goals as goal

pub returns : goal.returns
returns c = bounds_reach_from c.bounds_hold_from.ensures
