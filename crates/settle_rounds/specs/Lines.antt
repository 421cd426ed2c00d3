-- What lines of text promise: the bound of a device after so many rounds, and before any.
use Rattle.std.specs.Prelude.{ℕ, true, ◌≡◌, ◌≤◌, Some}
use Rattle.fc_values.specs.Trees.{TreeExport}
use Rattle.fc_nodes.specs.Program.{Program, unfolding_of, IsProgram}
use Rattle.firing_core.specs.Cores.{Core, IsGood}
use Rattle.value_bounds.specs.BoundValues.{BoundValue, Lies}
use Rattle.envelopes.specs.Envelopes.{Envelope, MayLive, surely_lives, IsEnvelope}
use Rattle.bound_rounds.specs.Rounds.{BoundTable, HasBound}
use Rattle.settle_rounds.specs.Rounds.{any_table}
use Rattle.settle_rounds.specs.Within.{RoundsWithin, StartTableWithin}

-- where a device has an export its value lies in a bound, and a device that is always there has one
pub record LiesAt (E : Envelope) (d : ℕ) (b : BoundValue) (last : Core) : Type 0 where
  pub value : (e : TreeExport) → last.exports d ≡ Some e → Lies b e.value
  pub there : surely_lives E d ≡ true → (e : TreeExport) × (last.exports d ≡ Some e)

-- from a core and the table from which its rounds are counted
abbrev pub LinesHold : Type 0
LinesHold = (P : Program) (E : Envelope) → IsProgram P → IsEnvelope E
    → (start last : Core) → IsGood (unfolding_of P) start → (most : ℕ) (table : BoundTable)
    → StartTableWithin (unfolding_of P) E start.net most start table
    → (r d : ℕ) (b : BoundValue) → MayLive E d → HasBound (unfolding_of P) E table r d b
    → (m : ℕ) → r ≤ m → RoundsWithin (unfolding_of P) E m start last → LiesAt E d b last

-- and from every good core, with the tables from anything
abbrev pub LinesHoldAnyhow : Type 0
LinesHoldAnyhow = (P : Program) (E : Envelope) → IsProgram P → IsEnvelope E
    → (start last : Core) → IsGood (unfolding_of P) start
    → (r d : ℕ) (b : BoundValue) → MayLive E d → HasBound (unfolding_of P) E (any_table (unfolding_of P)) r d b
    → (m : ℕ) → r ≤ m → RoundsWithin (unfolding_of P) E m start last → LiesAt E d b last

-- none ever leaves the table from which rounds are counted
abbrev pub StartsStay : Type 0
StartsStay = (P : Program) (E : Envelope) → IsProgram P → IsEnvelope E
    → (start last : Core) → IsGood (unfolding_of P) start → (most : ℕ) (table : BoundTable)
    → StartTableWithin (unfolding_of P) E start.net most start table
    → (d : ℕ) → MayLive E d → (m : ℕ) → RoundsWithin (unfolding_of P) E m start last
    → (e : TreeExport) → last.exports d ≡ Some e → Lies (table d).value e.value
