-- Stabilising: exactly one field solves a program, and rounds lead to its values.
use Rattle.std.specs.Prelude.{ℕ, ◌≡◌, List, Some}
use Rattle.fc_values.specs.Values.{LocalValue}
use Rattle.fc_values.specs.Trees.{TreeExport}
use Rattle.fc_nodes.specs.Program.{Unfolding}
use Rattle.topology.specs.Networks.{Network, Lives, numbers}
use Rattle.firing_core.specs.Entries.{EntryValue}
use Rattle.firing_core.specs.Cores.{Core, Run, IsGood}
use Rattle.firing_core.specs.Rounds.{HasRounds}
use Rattle.interval_facts.specs.Solutions.{SolvesMain}

-- exactly one field solves a program on a network: two that do agree at each device
pub record HasOneSolution (U : Unfolding) (N : Network) : Type 0 where
  pub field : ℕ → LocalValue
  pub solves : SolvesMain N U.main field
  pub only : (G : ℕ → LocalValue) → SolvesMain N U.main G → (d : ℕ) → Lives N d → G d ≡ field d

-- From every good core on the network, every log without an edit that has k rounds leads to exports with the values of
-- a field. Behind these rounds the log may go on as it likes, so the values stay. The cores include missing exports,
-- wrong ones and stale copies, and the logs every interleaving.
abbrev pub RoundsReach : Unfolding → Network → ℕ → (ℕ → LocalValue) → Type 0
RoundsReach U N k F =
    (start core : Core) (log : List EntryValue) → IsGood U start → start.net ≡ N → Run U start log core
    → HasRounds (numbers N.devices) log k
    → (d : ℕ) → Lives N d → (e : TreeExport) × (core.exports d ≡ Some e) × (e.value ≡ F d)

-- a program stabilises on a network within k rounds: the one field that solves it is reached
pub record Stabilises (U : Unfolding) (N : Network) (k : ℕ) : Type 0 where
  pub one : HasOneSolution U N
  pub reached : RoundsReach U N k one.field
