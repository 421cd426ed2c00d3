-- Rounds that ask each device that is there all the time are those that ask each device of the envelope.
use Rattle.std.proofs.Common.{ℕ}
use Rattle.topology.specs.Networks.{Network, Lives}
use Rattle.net_moves.proofs.Among.{rounds_to, rounds_from}
use Rattle.envelopes.specs.Envelopes.{ids, MayLive, LiesWithin}
use Rattle.envelope_bounds.specs.Laws.{RoundsAreWithin}
use Rattle.envelopes.proofs.Within.{may_live_of}

pub rounds_are_within : RoundsAreWithin
rounds_are_within E n log k s =
    let of : (m : Network) (d : ℕ) → LiesWithin E m → Lives m d → MayLive E d = λ m d i l. may_live_of E m i d l in
    (rounds_to (LiesWithin E) (ids E.devices) of k n log, rounds_from (LiesWithin E) (ids E.devices) of k n log s)
