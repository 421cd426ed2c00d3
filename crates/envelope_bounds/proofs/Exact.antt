-- The envelope of one network has this network within it alone. A log without an edit stays in it and has its rounds.
use Rattle.net_moves.proofs.Plain.{plain_stays, plain_rounds_are}
use Rattle.envelopes.specs.Envelopes.{LiesWithin}
use Rattle.envelopes.specs.Exactly.{exact_envelope}
use Rattle.envelopes.proofs.Exact.{exact_is, exact_within, exact_only}
use Rattle.envelope_bounds.specs.Laws.{EnvelopesAreExact}

pub envelopes_are_exact : EnvelopesAreExact
envelopes_are_exact N net = record {
  envelope = exact_is N net;
  within = exact_within N;
  only = exact_only N;
  stays = λ log h. plain_stays (LiesWithin (exact_envelope N)) N log (exact_within N) h;
  rounds = λ log m p. plain_rounds_are N log m p;
}
