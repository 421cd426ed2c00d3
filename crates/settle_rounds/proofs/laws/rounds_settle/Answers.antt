use Rattle.settle_rounds.proofs.Still.{rounds_settle}
use Rattle.settle_rounds.proofs.laws.rounds_settle.Goals as goal

pub returns : goal.returns
returns c = rounds_settle
