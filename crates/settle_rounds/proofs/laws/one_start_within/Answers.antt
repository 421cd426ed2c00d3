use Rattle.settle_rounds.proofs.StartTables.{one_start_within}
use Rattle.settle_rounds.proofs.laws.one_start_within.Goals as goal

pub returns : goal.returns
returns c = one_start_within
