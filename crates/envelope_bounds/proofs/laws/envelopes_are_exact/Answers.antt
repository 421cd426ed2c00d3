use Rattle.envelope_bounds.proofs.Exact.{envelopes_are_exact}
use Rattle.envelope_bounds.proofs.laws.envelopes_are_exact.Goals as goal

pub returns : goal.returns
returns c = envelopes_are_exact
