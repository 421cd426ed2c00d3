use Rattle.converge_laws.proofs.LowRanks.{ranks_are_low}
use Rattle.converge_laws.proofs.ranks.ranks_are_low.Goals as goal

pub returns : goal.returns
returns c = ranks_are_low
