use Rattle.walks.proofs.Best.{traced_hold}
use Rattle.walks.proofs.laws.traced_claims_hold.Goals as goal

pub returns : goal.returns
returns c = traced_hold
