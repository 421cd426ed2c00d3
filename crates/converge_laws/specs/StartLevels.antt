-- Levels of cores from one state: levels of exports that may be missing. A copy in flight at level 0 is one that lands
-- at level 0. `AtLevel` is the case in which each well-typed export, and a missing one, is at level 0.
use Rattle.std.specs.Prelude.{ℕ, zero, suc, ◌≡◌, ◌+◌, List, Option, Some}
use Rattle.fc_values.specs.Trees.{TreeExport, Copy}
use Rattle.fc_nodes.specs.Program.{Unfolding}
use Rattle.value_trees.specs.Copies.{FitsCopy}
use Rattle.device_eval.specs.Copies.{EvaluatesCopy}
use Rattle.topology.specs.Networks.{Network, Lives, numbers}
use Rattle.firing_core.specs.Entries.{EntryValue}
use Rattle.firing_core.specs.Cores.{Map, Core, copy_of, Run, IsGood}
use Rattle.firing_core.specs.Rounds.{HasRounds}
use Rattle.converge_laws.specs.CoreLevels.{GoodTable}

-- levels of exports that may be missing: whether what a device has in its place is at a level
abbrev pub MaybeLevel : Type 1
MaybeLevel = ℕ → ℕ → Option TreeExport → Type 0

-- a table is at a level where what each device has is
abbrev pub TableFrom : MaybeLevel → Network → ℕ → Map TreeExport → Type 0
TableFrom L N j table = (d : ℕ) → Lives N d → L j d (table d)

-- each export that a copy evaluates to is at level 0
abbrev pub LandsAt : MaybeLevel → Unfolding → ℕ → Copy → Type 0
LandsAt L U d s = (e : TreeExport) → EvaluatesCopy U s e → L 0 d (Some e)

-- Copies are counted from 0. At 0 a copy fits the program and lands at level 0. From 1 on it is the one that a begin
-- takes from some table one level below.
abbrev pub CopyFrom : MaybeLevel → Unfolding → Network → ℕ → ℕ → Copy → Type 0
CopyFrom L U N zero d s = FitsCopy U s × LandsAt L U d s
CopyFrom L U N (suc j) d s =
    (table : Map TreeExport) × GoodTable U N table × TableFrom L N j table × (s ≡ copy_of N table d)

-- a good core on a network is at a level where its exports are, and its copies in flight with the same count
pub record FromLevel (L : MaybeLevel) (U : Unfolding) (N : Network) (j : ℕ) (c : Core) : Type 0 where
  pub same : c.net ≡ N
  pub good : IsGood U c
  pub exports : TableFrom L N j c.exports
  pub copies : (d : ℕ) → Lives N d → (s : Copy) → c.flying d ≡ Some s → CopyFrom L U N j d s

-- what such levels have to meet: each implies the one below it, and a copy from a table at a level has its export one
-- level up
pub record Lifts (L : MaybeLevel) (U : Unfolding) (N : Network) : Type 0 where
  pub down : (j d : ℕ) (o : Option TreeExport) → Lives N d → L (suc j) d o → L j d o
  pub fires : (j : ℕ) (table : Map TreeExport) → GoodTable U N table → TableFrom L N j table → (d : ℕ) → Lives N d
      → (e : TreeExport) → EvaluatesCopy U (copy_of N table d) e → L (suc j) d (Some e)

-- the tables that the devices see are good, and at a level
abbrev pub SeenFrom : MaybeLevel → Unfolding → Network → ℕ → (ℕ → Map TreeExport) → Type 0
SeenFrom L U N j sees = (d : ℕ) → GoodTable U N (sees d) × TableFrom L N j (sees d)

-- a copy of a device in flight, if there is one, is one level up
abbrev pub FreshFrom : MaybeLevel → Unfolding → Network → ℕ → ℕ → Core → Type 0
FreshFrom L U N j d c = (s : Copy) → c.flying d ≡ Some s → CopyFrom L U N (suc j) d s

-- and so is what it has in its place
abbrev pub FiredFrom : MaybeLevel → Unfolding → Network → ℕ → ℕ → Core → Type 0
FiredFrom L U N j d c = L (suc j) d (c.exports d) × FreshFrom L U N j d c

-- one round raises the level by one: from a core at a level, a log with k rounds leads k levels up
abbrev pub LiftsByRounds : MaybeLevel → Unfolding → Network → Type 0
LiftsByRounds L U N = (j k : ℕ) (log : List EntryValue) (c last : Core) → FromLevel L U N j c → Run U c log last
    → HasRounds (numbers N.devices) log k → FromLevel L U N (j + k) last
