use Rattle.settle_rounds.proofs.HoldWithin.{bounds_hold_within}
use Rattle.settle_rounds.proofs.laws.bounds_hold_within.Goals as goal

pub returns : goal.returns
returns c = bounds_hold_within c.bounds_hold_within_from.ensures
