-- Levels of cores: levels of exports, and what they give for tables of exports, copies in flight and cores. A copy that
-- is in flight is one level behind the exports from which it was taken.
use Rattle.std.specs.Prelude.{ℕ, zero, suc, ◌≡◌, ◌+◌, List, Option, Some, None, false}
use Rattle.fc_values.specs.Trees.{TreeExport, Copy}
use Rattle.fc_nodes.specs.Program.{Unfolding}
use Rattle.fc_nodes.specs.Flat.{IsWellTyped}
use Rattle.value_trees.specs.Copies.{FitsCopy}
use Rattle.device_eval.specs.Copies.{EvaluatesCopy}
use Rattle.topology.specs.Networks.{Network, Lives, numbers}
use Rattle.firing_core.specs.Entries.{EntryValue, BeginEntry, EndEntry}
use Rattle.firing_core.specs.Cores.{Map, Core, copy_of, StepSeeing, Run, GoodExport, IsGood}
use Rattle.firing_core.specs.Rounds.{is_edit, HasRounds}

-- levels of exports: whether an export of a device is at a level
abbrev pub ExportLevel : Type 1
ExportLevel = ℕ → ℕ → TreeExport → Type 0

-- a missing export is at level 0 alone
abbrev pub MaybeAt : ExportLevel → ℕ → ℕ → Option TreeExport → Type 0
MaybeAt P j d (Some e) = P j d e
MaybeAt P zero d None = Unit {0}
MaybeAt P (suc j) d None = ⊥

-- a table is at a level where each device's export is
abbrev pub TableAt : ExportLevel → Network → ℕ → Map TreeExport → Type 0
TableAt P N j table = (d : ℕ) → Lives N d → MaybeAt P j d (table d)

-- the exports of a table are well-typed ones of devices of the network
abbrev pub GoodTable : Unfolding → Network → Map TreeExport → Type 0
GoodTable U N table = (d : ℕ) (e : TreeExport) → table d ≡ Some e → GoodExport U N d e

-- Copies are counted from 0. At 0 a copy fits the program and says nothing more: it may hold inputs, weights and
-- neighbours that the network doesn't have. From 1 on it is the one that a begin takes from some table one level below.
abbrev pub CopyAt : ExportLevel → Unfolding → Network → ℕ → ℕ → Copy → Type 0
CopyAt P U N zero d s = FitsCopy U s
CopyAt P U N (suc j) d s =
    (table : Map TreeExport) × GoodTable U N table × TableAt P N j table × (s ≡ copy_of N table d)

-- a good core on a network is at a level where its exports are, and its copies in flight with the same count
pub record AtLevel (P : ExportLevel) (U : Unfolding) (N : Network) (j : ℕ) (c : Core) : Type 0 where
  pub same : c.net ≡ N
  pub good : IsGood U c
  pub exports : TableAt P N j c.exports
  pub copies : (d : ℕ) → Lives N d → (s : Copy) → c.flying d ≡ Some s → CopyAt P U N j d s

-- What levels of exports have to meet: each implies the one below it, a well-typed export is at 0, and a copy from a
-- table at a level has its export one level up.
pub record Raises (P : ExportLevel) (U : Unfolding) (N : Network) : Type 0 where
  pub down : (j d : ℕ) (e : TreeExport) → Lives N d → P (suc j) d e → P j d e
  pub first : (d : ℕ) (e : TreeExport) → Lives N d → IsWellTyped U e → P 0 d e
  pub fires : (j : ℕ) (table : Map TreeExport) → GoodTable U N table → TableAt P N j table → (d : ℕ) → Lives N d
      → (e : TreeExport) → EvaluatesCopy U (copy_of N table d) e → P (suc j) d e

-- ---- what rounds do

-- the tables that the devices see are good, and at a level
abbrev pub SeenAt : ExportLevel → Unfolding → Network → ℕ → (ℕ → Map TreeExport) → Type 0
SeenAt P U N j sees = (d : ℕ) → GoodTable U N (sees d) × TableAt P N j (sees d)

-- a copy of a device in flight, if there is one, is one level up
abbrev pub IsFresh : ExportLevel → Unfolding → Network → ℕ → ℕ → Core → Type 0
IsFresh P U N j d c = (s : Copy) → c.flying d ≡ Some s → CopyAt P U N (suc j) d s

-- and so is its export
abbrev pub HasFired : ExportLevel → Unfolding → Network → ℕ → ℕ → Core → Type 0
HasFired P U N j d c = MaybeAt P (suc j) d (c.exports d) × IsFresh P U N j d c

-- Each step without an edit, where a begin takes its copy from any table at the level, keeps the level. It keeps a
-- device fresh, and fired; a begin makes its device fresh, and an end of a fresh device makes it fired.
pub record StepsRaise (P : ExportLevel) (U : Unfolding) (N : Network) (j : ℕ) (sees : ℕ → Map TreeExport)
    (c next : Core)
    : Type 0 where
  pub level : (e : EntryValue) → is_edit e ≡ false → IsGood U next → StepSeeing U sees c e next → AtLevel P U N j next
  pub fresh : (d : ℕ) (e : EntryValue) → is_edit e ≡ false → StepSeeing U sees c e next → IsFresh P U N j d c
      → IsFresh P U N j d next
  pub fired : (d : ℕ) (e : EntryValue) → is_edit e ≡ false → Lives N d → StepSeeing U sees c e next
      → HasFired P U N j d c
      → HasFired P U N j d next
  pub begins : (d : ℕ) → StepSeeing U sees c (BeginEntry d) next → IsFresh P U N j d next
  pub ends : (d : ℕ) → Lives N d → StepSeeing U sees c (EndEntry d) next → IsFresh P U N j d c → HasFired P U N j d next

abbrev pub LevelsOfSteps : ExportLevel → Unfolding → Network → Type 0
LevelsOfSteps P U N = (j : ℕ) (sees : ℕ → Map TreeExport) (c next : Core) → AtLevel P U N j c → SeenAt P U N j sees
    → StepsRaise P U N j sees c next

-- a good core on the network is at level 0
abbrev pub LevelsBegin : ExportLevel → Unfolding → Network → Type 0
LevelsBegin P U N = (c : Core) → c.net ≡ N → IsGood U c → AtLevel P U N 0 c

-- one round raises the level by one: from a core at a level, a log with k rounds leads k levels up
abbrev pub LevelsOfRounds : ExportLevel → Unfolding → Network → Type 0
LevelsOfRounds P U N = (j k : ℕ) (log : List EntryValue) (c last : Core) → AtLevel P U N j c → Run U c log last
    → HasRounds (numbers N.devices) log k → AtLevel P U N (j + k) last
