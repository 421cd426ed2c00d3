-- Each table of bounds has exactly one list of last bounds.
use Rattle.std.specs.Prelude.{ℕ, ◌≡◌, ◌≤◌, List}
use Rattle.fc_nodes.specs.Program.{Unfolding}
use Rattle.envelopes.specs.Envelopes.{Envelope, MayLive, IsEnvelope}
use Rattle.bound_rounds.specs.Rounds.{BoundTable}
use Rattle.last_bounds.specs.LastBounds.{LastBound, AreLastBounds}

-- tables that are the same at the devices of the envelope have at most one list of last bounds
abbrev pub OneList : Type 0
OneList = (U : Unfolding) (E : Envelope) → IsEnvelope E → (s t : BoundTable) → ((d : ℕ) → MayLive E d → s d ≡ t d)
    → (cap : ℕ) (ls ms : List LastBound) → AreLastBounds U E s cap ls → AreLastBounds U E t cap ms → ls ≡ ms

-- a table has one, if one round at least is made
abbrev pub SomeList : Type 0
SomeList = (U : Unfolding) (E : Envelope) (start : BoundTable) (cap : ℕ) → IsEnvelope E → 1 ≤ cap
    → (ls : List LastBound) × AreLastBounds U E start cap ls
