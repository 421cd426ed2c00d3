use Rattle.change_envelopes.proofs.SomeEnvelope.{some_envelope}
use Rattle.change_envelopes.proofs.laws.some_envelope.Goals as goal

pub returns : goal.returns
returns c = some_envelope
