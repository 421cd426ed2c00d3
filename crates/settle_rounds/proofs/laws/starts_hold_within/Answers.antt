use Rattle.settle_rounds.proofs.StartTables.{starts_hold_within}
use Rattle.settle_rounds.proofs.laws.starts_hold_within.Goals as goal

pub returns : goal.returns
returns c = starts_hold_within c.faultless_steps.ensures.copy c.exports_hold.ensures
