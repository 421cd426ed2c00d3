-- Last bounds within an envelope: with which table rounds end, and after how many a device has the bound that it has
-- there.
use Rattle.std.specs.Prelude.{ℕ, Bool, ◌≡◌, ◌<◌, ◌≤◌, List, map, not, All}
use Rattle.fc_nodes.specs.Program.{Unfolding}
use Rattle.value_bounds.specs.BoundValues.{BoundValue}
use Rattle.envelopes.specs.Envelopes.{Envelope, ids, surely_lives}
use Rattle.bound_rounds.specs.declared.rounds.RoundKind.TheVariants as kind
use Rattle.bound_rounds.specs.Rounds.{BoundTable, rounds_within, HasBound, IsFixedWithin}

-- the last table is the one after n rounds: the first that one round more leaves as it is, or that at the cap
pub record EndsAfter (U : Unfolding) (E : Envelope) (start : BoundTable) (cap n : ℕ) : Type 0 where
  pub within : n ≤ cap
  pub fixed : n < cap → IsFixedWithin kind.Firing U E (rounds_within U E start n)
  pub first : (i : ℕ) → i < n → IsFixedWithin kind.Firing U E (rounds_within U E start i) → ⊥

-- r is the least number of rounds after which it is
pub record HasBoundFirst (U : Unfolding) (E : Envelope) (start : BoundTable) (r d : ℕ) (b : BoundValue) : Type 0 where
  pub has : HasBound U E start r d b
  pub first : (i : ℕ) → i < r → HasBound U E start i d b → ⊥

-- what is said of a device: its last bound, after how many rounds it first has it, its bound before any round, and
-- whether it may be away
pub record LastBound : Type 0 where
  pub device : ℕ
  pub rounds : ℕ
  pub bound : BoundValue
  pub before : BoundValue
  pub away : Bool

-- so it is, with the table after n rounds as the last one
pub record IsLastBound (U : Unfolding) (E : Envelope) (start : BoundTable) (n : ℕ) (l : LastBound) : Type 0 where
  pub bound : l.bound ≡ (rounds_within U E start n l.device).value
  pub rounds : HasBoundFirst U E start l.rounds l.device l.bound
  pub before : l.before ≡ (start l.device).value
  pub away : l.away ≡ not (surely_lives E l.device)

-- the last bounds of all devices, by rising number
pub record AreLastBounds (U : Unfolding) (E : Envelope) (start : BoundTable) (cap : ℕ)
    (ls : List LastBound) : Type 0 where
  pub rounds : ℕ
  pub ends : EndsAfter U E start cap rounds
  pub devices : map (λ (l : LastBound). l.device) ls ≡ ids E.devices
  pub each : All (IsLastBound U E start rounds) ls
