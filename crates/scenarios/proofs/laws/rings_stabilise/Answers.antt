use Rattle.scenarios.proofs.Verdicts.{rings_stabilise}
use Rattle.scenarios.proofs.laws.rings_stabilise.Goals as goal

pub returns : goal.returns
returns c = rings_stabilise
