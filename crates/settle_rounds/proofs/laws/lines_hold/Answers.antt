use Rattle.settle_rounds.proofs.Lines.{lines_hold}
use Rattle.settle_rounds.proofs.laws.lines_hold.Goals as goal

pub returns : goal.returns
returns c = lines_hold c.bounds_hold_within_from.ensures c.starts_hold_within.ensures
