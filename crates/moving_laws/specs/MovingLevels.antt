-- Levels of cores while the network changes: as in `StartLevels` of converge_laws, but the network is any allowed one,
-- and a copy in flight may be from another one that is allowed. Levels speak of every device: one that isn't there
-- has a missing export at each level.
use Rattle.std.specs.Prelude.{ℕ, zero, suc, false, ◌≡◌, ◌+◌, List, Option, Some, None}
use Rattle.fc_values.specs.Trees.{TreeExport, Copy}
use Rattle.fc_nodes.specs.Program.{Unfolding}
use Rattle.value_trees.specs.Copies.{FitsCopy}
use Rattle.device_eval.specs.Copies.{EvaluatesCopy}
use Rattle.topology.specs.Networks.{Network, IsNetwork, lives, Lives}
use Rattle.firing_core.specs.Entries.{EntryValue}
use Rattle.firing_core.specs.Cores.{Map, Core, copy_of, Run, IsGood}
use Rattle.converge_laws.specs.CoreLevels.{GoodTable}
use Rattle.converge_laws.specs.StartLevels.{MaybeLevel, LandsAt}
use Rattle.net_moves.specs.Moves.{Allowed, Stays, HasRoundsThere}

-- a table is at a level where what each device has is
abbrev pub TableOf : MaybeLevel → ℕ → Map TreeExport → Type 0
TableOf L j table = (d : ℕ) → L j d (table d)

-- the copy that a begin takes on an allowed network from some table at a level
pub record TakenAt (L : MaybeLevel) (U : Unfolding) (In : Allowed) (j d : ℕ) (s : Copy) : Type 0 where
  pub net : Network
  pub allowed : In net
  pub is_net : IsNetwork net
  pub declared : net.declared ≡ U.declared
  pub there : Lives net d
  pub table : Map TreeExport
  pub good : GoodTable U net table
  pub level : TableOf L j table
  pub is : s ≡ copy_of net table d

-- Copies are counted from 0. At 0 a copy fits the program and lands at level 0. From 1 on it is one that a begin takes
-- from some table one level below.
abbrev pub CopyOf : MaybeLevel → Unfolding → Allowed → ℕ → ℕ → Copy → Type 0
CopyOf L U In zero d s = FitsCopy U s × LandsAt L U d s
CopyOf L U In (suc j) d s = TakenAt L U In j d s

-- a good core on an allowed network is at a level where its exports are, and its copies in flight with the same count
pub record MovingLevel (L : MaybeLevel) (U : Unfolding) (In : Allowed) (j : ℕ) (c : Core) : Type 0 where
  pub allowed : In c.net
  pub good : IsGood U c
  pub exports : TableOf L j c.exports
  pub copies : (d : ℕ) (s : Copy) → c.flying d ≡ Some s → CopyOf L U In j d s

-- What such levels have to meet: each implies the one below it; a device that may be away may have no export at each;
-- and a copy from a table at a level has its export one level up.
pub record LiftsMoving (L : MaybeLevel) (U : Unfolding) (In : Allowed) : Type 0 where
  pub down : (j d : ℕ) (o : Option TreeExport) → L (suc j) d o → L j d o
  pub away : (j d : ℕ) (n : Network) → In n → lives n d ≡ false → L j d None
  pub fires : (j : ℕ) (n : Network) (table : Map TreeExport) → In n → IsNetwork n → n.declared ≡ U.declared
      → GoodTable U n table → TableOf L j table → (d : ℕ) → Lives n d
      → (e : TreeExport) → EvaluatesCopy U (copy_of n table d) e → L (suc j) d (Some e)

-- the tables that the devices see are good, and at a level
abbrev pub SeenOf : MaybeLevel → Unfolding → ℕ → Network → (ℕ → Map TreeExport) → Type 0
SeenOf L U j n sees = (d : ℕ) → GoodTable U n (sees d) × TableOf L j (sees d)

-- a copy of a device in flight, if there is one, is one level up
abbrev pub FreshOf : MaybeLevel → Unfolding → Allowed → ℕ → ℕ → Core → Type 0
FreshOf L U In j d c = (s : Copy) → c.flying d ≡ Some s → CopyOf L U In (suc j) d s

-- and so is what it has in its place
abbrev pub FiredOf : MaybeLevel → Unfolding → Allowed → ℕ → ℕ → Core → Type 0
FiredOf L U In j d c = L (suc j) d (c.exports d) × FreshOf L U In j d c

-- one round raises the level by one, whatever is edited: from a core at a level, a log that stays in what is allowed
-- and has k rounds leads k levels up
abbrev pub MovesByRounds : MaybeLevel → Unfolding → Allowed → Type 0
MovesByRounds L U In = (j k : ℕ) (log : List EntryValue) (c last : Core) → MovingLevel L U In j c → Run U c log last
    → Stays In c.net log → HasRoundsThere c.net log k → MovingLevel L U In (j + k) last
