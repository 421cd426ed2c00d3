-- What is promised of a network that stands still is what holds within the envelope of this network alone.
use Rattle.std.proofs.Common.{◌≡◌, ℕ, refl, sym, subst, Bool, true, false, Option, Some, None}
use Rattle.fc_values.specs.Trees.{TreeExport}
use Rattle.fc_nodes.specs.Program.{Unfolding, unfolding_of}
use Rattle.topology.specs.Networks.{Network, numbers}
use Rattle.firing_core.specs.Cores.{Core}
use Rattle.net_moves.specs.Moves.{HasRoundsThere}
use Rattle.net_moves.proofs.Plain.{plain_of, plain_stays, plain_rounds}
use Rattle.bound_firing.specs.Exports.{ExportBound}
use Rattle.envelopes.specs.Envelopes.{LiesWithin}
use Rattle.envelopes.specs.Exactly.{exact_envelope}
use Rattle.envelopes.proofs.Exact.{exact_is, exact_within, exact_may_live}
use Rattle.envelope_bounds.specs.Logs.{StaysWithin}
use Rattle.bound_rounds.specs.Rounds.{rounds_from}
use Rattle.settle_rounds.specs.Rounds.{any_table, BoundsReach}
use Rattle.settle_rounds.specs.Within.{MaybeLies, StandsIn, RoundsWithin, BoundsHoldWithinFrom}
use Rattle.settle_rounds.specs.Starts.{RoundsFrom, BoundsHoldFrom, BoundsReachFrom}
use Rattle.settle_rounds.proofs.HoldWithin.{any_closed_within, any_holds_within}
use Rattle.settle_rounds.proofs.Rising.{has_value}

-- a log with rounds on a network that stands still stays within its envelope, and has these rounds there
stays_on : (U : Unfolding) (N : Network) (m : ℕ) (start last : Core) → start.net ≡ N → RoundsFrom U N m start last
    → RoundsWithin U (exact_envelope N) m start last
stays_on U N m start last on r = record {
  log = r.log;
  run = r.run;
  stays = subst (λ n. StaysWithin (exact_envelope N) n r.log) (sym on)
      (plain_stays (LiesWithin (exact_envelope N)) N r.log (exact_within N)
      (plain_of (numbers N.devices) r.log m r.rounds));
  rounds = subst (λ n. HasRoundsThere n r.log m) (sym on) (plain_rounds N r.log m r.rounds);
}

-- an export that stands in a bound, or a missing one
maybe_of : (U : Unfolding) (b : ExportBound) (o : Option TreeExport) → StandsIn U b o → MaybeLies U b o
maybe_of U b (Some e) h = h.lies e refl
maybe_of U b None h = by_test b.sure refl
  where
    by_test : (s : Bool) → b.sure ≡ s → b.sure ≡ false
    by_test true q = let x = h.sure q in let z : None ≡ Some x.0 = x.1 in absurd cc
    by_test false q = q

pub bounds_hold_from : BoundsHoldWithinFrom → BoundsHoldFrom
bounds_hold_from within P N program net same table closed start last good on h i m d l k r =
    let U = unfolding_of P in
    maybe_of U (rounds_from U N table i d) (last.exports d)
    (within P (exact_envelope N) program (exact_is N net) table closed start last good h i m d (exact_may_live N d l) k
    (stays_on U N m start last on r))

pub bounds_reach_from : BoundsHoldFrom → BoundsReachFrom
bounds_reach_from hold P N program net same table closed start good on h k d l r m x last v =
    has_value (unfolding_of P) (rounds_from (unfolding_of P) N table k d) (last.exports d) r
    (hold P N program net same table closed start last good on h k m d l x v)

-- from any exports
pub bounds_reach : BoundsReachFrom → BoundsReach
bounds_reach from P N program net same k d l r m g start last log good on run has =
    let U = unfolding_of P in
    from P N program net same (any_table U) (any_closed_within U (exact_envelope N)) start good on
    (any_holds_within U (exact_envelope N) start good) k d l r m g last
    (record { log = log; run = run; rounds = has })
