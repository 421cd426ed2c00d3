use Rattle.settle_rounds.proofs.Lines.{starts_stay}
use Rattle.settle_rounds.proofs.laws.starts_stay.Goals as goal

pub returns : goal.returns
returns c = starts_stay c.bounds_hold_within_from.ensures c.starts_hold_within.ensures
