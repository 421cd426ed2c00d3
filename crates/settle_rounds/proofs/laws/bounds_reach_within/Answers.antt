use Rattle.settle_rounds.proofs.HoldWithin.{bounds_reach_within}
use Rattle.settle_rounds.proofs.laws.bounds_reach_within.Goals as goal

pub returns : goal.returns
returns c = bounds_reach_within c.bounds_hold_within_from.ensures
