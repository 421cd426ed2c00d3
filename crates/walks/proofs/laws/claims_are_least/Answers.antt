use Rattle.walks.proofs.Best.{claims_least}
use Rattle.walks.proofs.laws.claims_are_least.Goals as goal

pub returns : goal.returns
returns c = claims_least
