use Rattle.envelope_bounds.proofs.Yes.{verdicts_rise}
use Rattle.envelope_bounds.proofs.laws.verdicts_rise.Goals as goal

pub returns : goal.returns
returns c = verdicts_rise
