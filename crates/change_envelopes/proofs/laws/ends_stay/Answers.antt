use Rattle.change_envelopes.proofs.ScenesWithin.{ends_stay}
use Rattle.change_envelopes.proofs.laws.ends_stay.Goals as goal

pub returns : goal.returns
returns c = ends_stay
