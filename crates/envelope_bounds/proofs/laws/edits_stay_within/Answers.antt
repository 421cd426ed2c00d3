use Rattle.envelope_bounds.proofs.EditsStay.{edits_stay_within}
use Rattle.envelope_bounds.proofs.laws.edits_stay_within.Goals as goal

pub returns : goal.returns
returns c = edits_stay_within
