use Rattle.bound_rounds.proofs.Closeness.{rounds_are_local}
use Rattle.bound_rounds.proofs.laws.rounds_are_local.Goals as goal

pub returns : goal.returns
returns c = rounds_are_local
