use Rattle.settle_rounds.proofs.Lines.{lines_hold_anyhow}
use Rattle.settle_rounds.proofs.laws.lines_hold_anyhow.Goals as goal

pub returns : goal.returns
returns c = lines_hold_anyhow c.bounds_hold_within.ensures
