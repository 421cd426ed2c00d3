-- A yes for as many devices as an envelope has holds on each network within it.
use Rattle.std.specs.Prelude.{ℕ, ◌≡◌, ◌≤◌, length}
use Rattle.fc_nodes.specs.declared.verdicts.Verdict.TheVariants as verdict
use Rattle.fc_nodes.specs.Program.{Program, Unfolding, unfolding_of, IsProgram}
use Rattle.topology.specs.Networks.{Network, IsNetwork}
use Rattle.fragment_check.specs.Verdicts.{verdict_of}
use Rattle.converge_laws.specs.Stabilising.{Stabilises}
use Rattle.envelopes.specs.Envelopes.{Envelope, LiesWithin}

-- a yes for some devices is one for fewer devices, with no more rounds
abbrev pub VerdictsRise : Type 0
VerdictsRise = (U : Unfolding) (m n K : ℕ) → m ≤ n → verdict_of U n ≡ verdict.Yes K
    → (k : ℕ) × (verdict_of U m ≡ verdict.Yes k) × (k ≤ K)

-- so the program stabilises within K rounds on each network within the envelope, once it stands still
abbrev pub YesHoldsWithin : Type 0
YesHoldsWithin = (P : Program) (E : Envelope) (N : Network) (K : ℕ) → IsProgram P → IsNetwork N
    → N.declared ≡ P.declared → LiesWithin E N → verdict_of (unfolding_of P) (length E.devices) ≡ verdict.Yes K
    → Stabilises (unfolding_of P) N K
