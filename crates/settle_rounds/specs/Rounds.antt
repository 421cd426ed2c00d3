-- Rounds of bounds from any exports, and what is reached after so many rounds.
use Rattle.std.specs.Prelude.{ℕ, Bool, true, ◌≡◌, ◌≤◌, ◌&&◌, List, Some}
use Rattle.fc_values.specs.Values.{LocalValue}
use Rattle.fc_values.specs.Trees.{TreeExport}
use Rattle.fc_nodes.specs.Program.{Program, Unfolding, unfolding_of, IsProgram}
use Rattle.fc_nodes.specs.Flat.{IsWellTyped}
use Rattle.topology.specs.Networks.{Network, IsNetwork, Lives, numbers}
use Rattle.firing_core.specs.Entries.{EntryValue}
use Rattle.firing_core.specs.Cores.{Core, Run, IsGood}
use Rattle.firing_core.specs.Rounds.{HasRounds}
use Rattle.value_bounds.specs.BoundValues.{is_known, value_left}
use Rattle.bound_firing.specs.Exports.{ExportBound, any_export, ExportLies}
use Rattle.bound_rounds.specs.Rounds.{BoundTable, rounds_from}

-- any export, or none
abbrev pub any_table : Unfolding → BoundTable
any_table U d = any_export U

-- the table of bounds after so many rounds from there
abbrev pub bounds_after : Unfolding → Network → ℕ → BoundTable
bounds_after U N j d = rounds_from U N (any_table U) j d

-- the levels of exports: well-typed, and within the bounds after each number of rounds up to the level
pub record Within (U : Unfolding) (N : Network) (j d : ℕ) (e : TreeExport) : Type 0 where
  pub typed : IsWellTyped U e
  pub lies : (i : ℕ) → i ≤ j → ExportLies U (bounds_after U N i d) e

-- the export is there, and its value is known
abbrev pub is_reached : ExportBound → Bool
is_reached b = b.sure && is_known b.value

-- From every good core on a network each log without an edit that has so many rounds leads to an export of the device
-- with this value
abbrev pub ReachedAt : Unfolding → Network → ℕ → ℕ → LocalValue → Type 0
ReachedAt U N k d v = (start last : Core) (log : List EntryValue) → IsGood U start → start.net ≡ N
    → Run U start log last
    → HasRounds (numbers N.devices) log k → (e : TreeExport) × (last.exports d ≡ Some e) × (e.value ≡ v)

-- where the bounds after k rounds leave one value, it is reached after k rounds and after any more
abbrev pub BoundsReach : Type 0
BoundsReach = (P : Program) (N : Network) → IsProgram P → IsNetwork N → N.declared ≡ P.declared → (k d : ℕ) → Lives N d
    → is_reached (bounds_after (unfolding_of P) N k d) ≡ true → (m : ℕ) → k ≤ m
    → ReachedAt (unfolding_of P) N m d (value_left (bounds_after (unfolding_of P) N k d).value)
