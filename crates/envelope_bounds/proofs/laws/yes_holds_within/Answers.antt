use Rattle.envelope_bounds.proofs.Yes.{yes_holds_within}
use Rattle.envelope_bounds.proofs.laws.yes_holds_within.Goals as goal

pub returns : goal.returns
returns c = yes_holds_within c.yes_stabilises.ensures c.verdicts_rise.ensures
