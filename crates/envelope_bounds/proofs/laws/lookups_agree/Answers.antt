use Rattle.envelope_bounds.proofs.LookedUp.{lookups_agree}
use Rattle.envelope_bounds.proofs.laws.lookups_agree.Goals as goal

pub returns : goal.returns
returns c = lookups_agree
