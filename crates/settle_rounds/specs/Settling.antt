-- Devices that stay open, and what a yes adds.
use Rattle.std.specs.Prelude.{ℕ, zero, suc, true, false, ◌≡◌, ◌≤◌, ◌<◌, length, Option, Some, None, if◌then◌else◌}
use Rattle.fc_nodes.specs.declared.verdicts.Verdict.TheVariants as verdict
use Rattle.fc_nodes.specs.Program.{Program, Unfolding, unfolding_of, IsProgram}
use Rattle.topology.specs.Networks.{Network, IsNetwork}
use Rattle.fragment_check.specs.Verdicts.{verdict_of}
use Rattle.bound_firing.specs.Exports.{ExportBound}
use Rattle.envelopes.specs.Envelopes.{Envelope, MayLive, IsEnvelope}
use Rattle.bound_rounds.specs.declared.rounds.RoundKind.TheVariants as kind
use Rattle.bound_rounds.specs.declared.rounds.RoundKind.{RoundKind}
use Rattle.bound_rounds.specs.Rounds.{BoundTable, table_within, rounds_within, IsFixedWithin}
use Rattle.settle_rounds.specs.Rounds.{any_table, is_reached}
use Rattle.settle_rounds.specs.Starts.{LeftIsSolvedFrom}

-- the round after the first j ones changes no bound of a device that may be there
abbrev pub IsStillWithin : RoundKind → Unfolding → Envelope → BoundTable → ℕ → Type 0
IsStillWithin k U E start j = IsFixedWithin k U E (table_within k U E start j)

-- from then on nothing changes, so what isn't known by then never will be
abbrev pub StillStaysWithin : Type 0
StillStaysWithin = (k : RoundKind) (U : Unfolding) (E : Envelope) → IsEnvelope E → (start : BoundTable) (j i : ℕ)
    → IsStillWithin k U E start j → j ≤ i → (d : ℕ) → MayLive E d
    → table_within k U E start i d ≡ table_within k U E start j d

-- where the verdict is a yes, the value that is left from any exports is that of the one field
abbrev pub YesLeaves : Type 0
YesLeaves = (P : Program) (N : Network) (K : ℕ) → IsProgram P → IsNetwork N → N.declared ≡ P.declared
    → verdict_of (unfolding_of P) (length N.devices) ≡ verdict.Yes K
    → LeftIsSolvedFrom (unfolding_of P) N (any_table (unfolding_of P))

-- the first of n rounds from j on after which a device is reached, and its settle round: the first up to the cap
abbrev pub first_reached : (ℕ → ExportBound) → ℕ → ℕ → Option ℕ
first_reached b zero j = None
first_reached b (suc n) j = if is_reached (b j) then Some j else first_reached b n (suc j)

abbrev pub settle_round : Unfolding → Envelope → BoundTable → ℕ → ℕ → Option ℕ
settle_round U E start cap d = first_reached (λ j. rounds_within U E start j d) (suc cap) 0

-- it is one after which the device is reached, and it isn't before
pub record SettlesAfter (U : Unfolding) (E : Envelope) (start : BoundTable) (d k : ℕ) : Type 0 where
  pub reached : is_reached (rounds_within U E start k d) ≡ true
  pub before : (i : ℕ) → i < k → is_reached (rounds_within U E start i d) ≡ false

-- the settle round is that number, where it is at most the cap; and there is none where a round is still and the device
-- isn't reached by then
pub record RoundsAre (U : Unfolding) (E : Envelope) (start : BoundTable) : Type 0 where
  pub settles : (cap d k : ℕ) → settle_round U E start cap d ≡ Some k → SettlesAfter U E start d k
  pub within : (cap d k : ℕ) → settle_round U E start cap d ≡ Some k → k ≤ cap
  pub found : (cap d k : ℕ) → k ≤ cap → SettlesAfter U E start d k → settle_round U E start cap d ≡ Some k
  pub never : (cap d j : ℕ) → IsStillWithin kind.Firing U E start j → MayLive E d
      → ((i : ℕ) → i ≤ j → is_reached (rounds_within U E start i d) ≡ false) → settle_round U E start cap d ≡ None

abbrev pub RoundsSettle : Type 0
RoundsSettle = (U : Unfolding) (E : Envelope) → IsEnvelope E → (start : BoundTable) → RoundsAre U E start
