use Rattle.settle_rounds.proofs.Still.{still_stays_within}
use Rattle.settle_rounds.proofs.laws.still_stays_within.Goals as goal

pub returns : goal.returns
returns c = still_stays_within
