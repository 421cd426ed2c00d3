use Rattle.envelope_bounds.proofs.LogRounds.{rounds_are_within}
use Rattle.envelope_bounds.proofs.laws.rounds_are_within.Goals as goal

pub returns : goal.returns
returns c = rounds_are_within
