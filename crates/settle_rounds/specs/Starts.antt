-- Rounds of bounds on a network that stands still, from one core: the tables of bounds that hold it, and what is reached
-- from it.
use Rattle.std.specs.Prelude.{ℕ, true, ◌≡◌, ◌≤◌, ◌/◌, List, Some, length}
use Rattle.fc_values.specs.Values.{LocalValue}
use Rattle.fc_values.specs.Trees.{TreeExport}
use Rattle.fc_nodes.specs.declared.verdicts.Verdict.TheVariants as verdict
use Rattle.fc_nodes.specs.Program.{Program, Unfolding, unfolding_of, IsProgram}
use Rattle.topology.specs.Networks.{Network, IsNetwork, Lives, numbers}
use Rattle.firing_core.specs.Entries.{EntryValue}
use Rattle.firing_core.specs.Cores.{Core, Run, IsGood}
use Rattle.firing_core.specs.Rounds.{HasRounds}
use Rattle.fragment_check.specs.Verdicts.{verdict_of}
use Rattle.converge_laws.specs.Stabilising.{HasOneSolution}
use Rattle.value_bounds.specs.BoundValues.{value_left}
use Rattle.envelopes.specs.Exactly.{exact_envelope}
use Rattle.bound_rounds.specs.Rounds.{BoundTable, rounds_from}
use Rattle.settle_rounds.specs.declared.limits.TheConstants.{MOST_BOUND_FIRINGS}
use Rattle.settle_rounds.specs.Rounds.{is_reached}
use Rattle.settle_rounds.specs.Within.{MaybeLies, IsClosedWithin, HoldsCoreWithin}

-- ---- tables that hold a core

-- what a firing over the table gives lies in the table
abbrev pub IsClosed : Unfolding → Network → BoundTable → Type 0
IsClosed U N table = IsClosedWithin U (exact_envelope N) table

-- it holds the exports of a core, and those that its copies in flight evaluate to
abbrev pub HoldsCore : Unfolding → Network → BoundTable → Core → Type 0
HoldsCore U N table c = HoldsCoreWithin U (exact_envelope N) table c

-- a log without an edit that has so many rounds, from a core
pub record RoundsFrom (U : Unfolding) (N : Network) (m : ℕ) (start last : Core) : Type 0 where
  pub log : List EntryValue
  pub run : Run U start log last
  pub rounds : HasRounds (numbers N.devices) log m

-- after m rounds from a core that a closed table holds each export lies in the bounds after any i rounds up to m: with
-- i = 0, none ever leaves the table
abbrev pub BoundsHoldFrom : Type 0
BoundsHoldFrom = (P : Program) (N : Network) → IsProgram P → IsNetwork N → N.declared ≡ P.declared
    → (table : BoundTable) → IsClosed (unfolding_of P) N table
    → (start last : Core) → IsGood (unfolding_of P) start → start.net ≡ N → HoldsCore (unfolding_of P) N table start
    → (i m d : ℕ) → Lives N d → i ≤ m → RoundsFrom (unfolding_of P) N m start last
    → MaybeLies (unfolding_of P) (rounds_from (unfolding_of P) N table i d) (last.exports d)

-- each log without an edit that has so many rounds leads from the core to an export of the device with this value
abbrev pub ReachedFrom : Unfolding → Network → Core → ℕ → ℕ → LocalValue → Type 0
ReachedFrom U N start m d v =
    (last : Core) → RoundsFrom U N m start last → (e : TreeExport) × (last.exports d ≡ Some e) × (e.value ≡ v)

-- where the bounds after k rounds leave one value, it is reached after k rounds and after any more. That any table
-- holds each good core makes `BoundsReach` of it
abbrev pub BoundsReachFrom : Type 0
BoundsReachFrom = (P : Program) (N : Network) → IsProgram P → IsNetwork N → N.declared ≡ P.declared
    → (table : BoundTable) → IsClosed (unfolding_of P) N table
    → (start : Core) → IsGood (unfolding_of P) start → start.net ≡ N → HoldsCore (unfolding_of P) N table start
    → (k d : ℕ) → Lives N d → is_reached (rounds_from (unfolding_of P) N table k d) ≡ true → (m : ℕ) → k ≤ m
    → ReachedFrom (unfolding_of P) N start m d (value_left (rounds_from (unfolding_of P) N table k d).value)

-- with a yes, the value that is left is that of the one field
pub record LeftIsSolvedFrom (U : Unfolding) (N : Network) (table : BoundTable) : Type 0 where
  pub one : HasOneSolution U N
  pub left : (k d : ℕ) → Lives N d → is_reached (rounds_from U N table k d) ≡ true
      → value_left (rounds_from U N table k d).value ≡ one.field d

abbrev pub YesLeavesFrom : Type 0
YesLeavesFrom = (P : Program) (N : Network) (K : ℕ) → IsProgram P → IsNetwork N → N.declared ≡ P.declared
    → verdict_of (unfolding_of P) (length N.devices) ≡ verdict.Yes K
    → (table : BoundTable) → IsClosed (unfolding_of P) N table
    → (start : Core) → IsGood (unfolding_of P) start → start.net ≡ N → HoldsCore (unfolding_of P) N table start
    → LeftIsSolvedFrom (unfolding_of P) N table

-- at most so many rounds of growing are looked at, of so many devices
abbrev pub growing_cap : ℕ → ℕ
growing_cap n = MOST_BOUND_FIRINGS / n
