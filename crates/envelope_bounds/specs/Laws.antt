-- Laws of envelopes.
use Rattle.std.specs.Prelude.{ℕ, ◌≡◌, ◌↔◌, List, false}
use Rattle.fc_nodes.specs.Program.{Unfolding}
use Rattle.topology.specs.Networks.{Network, IsNetwork, numbers}
use Rattle.firing_core.specs.Entries.{EntryValue}
use Rattle.firing_core.specs.Cores.{Core, Run}
use Rattle.firing_core.specs.Rounds.{has_edit, HasRounds}
use Rattle.net_moves.specs.Moves.{HasRoundsThere}
use Rattle.envelopes.specs.Envelopes.{Envelope, IsEnvelope, LiesWithin}
use Rattle.envelopes.specs.Exactly.{exact_envelope}
use Rattle.envelopes.specs.Edits.{SureEnds, AllMayEnter}
use Rattle.envelope_bounds.specs.Logs.{HasRoundsWithin, StaysWithin}
use Rattle.envelopes.specs.Lookups.{LiesByLookups}

-- a log each of whose edits an envelope allows stays within it
abbrev pub EditsStayWithin : Type 0
EditsStayWithin = (U : Unfolding) (E : Envelope) → IsEnvelope E → SureEnds E.devices E.links → (c last : Core)
    (log : List EntryValue) → LiesWithin E c.net → Run U c log last → AllMayEnter E log → StaysWithin E c.net log

-- a network lies within an envelope where look-ups of devices and pairs say so
abbrev pub LookupsAgree : Type 0
LookupsAgree = (E : Envelope) (N : Network) → IsEnvelope E → IsNetwork N → (LiesByLookups E N ↔ LiesWithin E N)

-- the rounds of a log that stays within an envelope are those in which each device fires that is there all the time
abbrev pub RoundsAreWithin : Type 0
RoundsAreWithin = (E : Envelope) (n : Network) (log : List EntryValue) (k : ℕ) → StaysWithin E n log
    → (HasRoundsThere n log k ↔ HasRoundsWithin E n log k)

-- A network is the only one within its envelope. A log without an edit stays in it, and its rounds are those within it.
pub record IsExact (N : Network) : Type 0 where
  pub envelope : IsEnvelope (exact_envelope N)
  pub within : LiesWithin (exact_envelope N) N
  pub only : (M : Network) → LiesWithin (exact_envelope N) M → M ≡ N
  pub stays : (log : List EntryValue) → has_edit log ≡ false → StaysWithin (exact_envelope N) N log
  pub rounds : (log : List EntryValue) (m : ℕ) → has_edit log ≡ false
      → (HasRounds (numbers N.devices) log m ↔ HasRoundsThere N log m)

abbrev pub EnvelopesAreExact : Type 0
EnvelopesAreExact = (N : Network) → IsNetwork N → IsExact N
