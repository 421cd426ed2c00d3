use Rattle.settle_rounds.proofs.ReachFrom.{bounds_hold_from}
use Rattle.settle_rounds.proofs.laws.bounds_hold_from.Goals as goal

pub returns : goal.returns
returns c = bounds_hold_from c.bounds_hold_within_from.ensures
