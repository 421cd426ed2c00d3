use Rattle.change_envelopes.proofs.OneEnvelope.{one_envelope}
use Rattle.change_envelopes.proofs.laws.one_envelope.Goals as goal

pub returns : goal.returns
returns c = one_envelope
