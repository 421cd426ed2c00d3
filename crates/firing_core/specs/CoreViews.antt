-- What contracts see of a core in code: one slot for each device, in the order of the network.
use Rattle.std.specs.Prelude.{ℕ, ◌≡◌, List, [], ◌∷◌, map, length, nat_eq, if◌then◌else◌}
use Rattle.std.specs.Prelude.{Option, Some, None, option_map}
use Rattle.fc_values.specs.declared.exports.Export.{Export}
use Rattle.fc_nodes.specs.Program.{Program, Unfolding, unfolding_of}
use Rattle.fc_values.specs.Exports.{FlatExport, export_of}
use Rattle.fc_values.specs.Trees.{Copy}
use Rattle.value_trees.specs.declared.copies.Near.{Near}
use Rattle.value_trees.specs.declared.copies.Snap.{Snap}
use Rattle.value_trees.specs.Copies.{WhereSome}
use Rattle.value_trees.specs.Snaps.{tree_of, snap_copy, near_copy, IsExportOf, IsSnap}
use Rattle.topology.specs.Networks.{Network, IsNetwork, numbers, near}
use Rattle.device_eval.specs.Firing.{FiredValue}
use Rattle.firing_core.specs.Entries.{EditValue}
use Rattle.firing_core.specs.Cores.{Map, put, Core, Edits, near_copies}

pub record CoreValue : Type 0 where
  pub program : Program
  pub net : Network
  pub exports : List (Option Export)
  pub flying : List (Option Snap)

abbrev pub core_with : Program → Network → List (Option Export) → List (Option Snap) → CoreValue
core_with p n xs ss = record { program = p; net = n; exports = xs; flying = ss }

-- a neighbour in a copy, as plain values
abbrev pub near_view : Near → ℕ × ℕ × FlatExport
near_view n = (n.device, n.weight, export_of n.export)

-- the slot of a device
abbrev pub device_slot : {X : Type 0} → List ℕ → List (Option X) → Map X
device_slot [] xs d = None
device_slot (i ∷ is) [] d = None
device_slot (i ∷ is) (x ∷ xs) d = if nat_eq d i then x else device_slot is xs d

abbrev pub program_of : CoreValue → Unfolding
program_of c = unfolding_of c.program

-- the core that it stands for
abbrev pub core_of : CoreValue → Core
core_of c = record {
  net = c.net;
  exports = device_slot (numbers c.net.devices) (map (option_map (tree_of (program_of c))) c.exports);
  flying = device_slot (numbers c.net.devices) (map (option_map (snap_copy (program_of c))) c.flying);
}

-- an edit leads from a core to another
abbrev pub Edited : CoreValue → EditValue → CoreValue → Type 0
Edited old e new = Edits (program_of old) (core_of old) e (core_of new)

-- the copies of those neighbours of a device that have an export
abbrev pub AreNear : CoreValue → ℕ → List Near → Type 0
AreNear c d ns = map (near_copy (program_of c)) ns ≡ near_copies (core_of c).exports (near c.net d)

-- flights stand for the same copies
abbrev pub SameFlight : Unfolding → Option Snap → Option Snap → Type 0
SameFlight U s t = option_map (snap_copy U) s ≡ option_map (snap_copy U) t

abbrev pub SameFlights : Unfolding → List (Option Snap) → List (Option Snap) → Type 0
SameFlights U ss ts = map (option_map (snap_copy U)) ss ≡ map (option_map (snap_copy U)) ts

abbrev pub AllExports : Unfolding → List (Option Export) → Type 0
AllExports U [] = Unit {0}
AllExports U (x ∷ xs) = WhereSome (IsExportOf U) x × AllExports U xs

-- a copy in flight of this device
pub record FlightOf (U : Unfolding) (d : ℕ) (s : Snap) : Type 0 where
  pub names : s.device ≡ d
  pub snap : IsSnap U s

abbrev pub AllFlights : Unfolding → List ℕ → List (Option Snap) → Type 0
AllFlights U [] [] = Unit {0}
AllFlights U (d ∷ ds) (x ∷ xs) = WhereSome (FlightOf U d) x × AllFlights U ds xs
AllFlights U _ _ = ⊥

-- copies in flight that fit
abbrev pub AllSnaps : Unfolding → List (Option Snap) → Type 0
AllSnaps U [] = Unit {0}
AllSnaps U (x ∷ xs) = WhereSome (IsSnap U) x × AllSnaps U xs

-- what its type keeps
pub record IsCore (c : CoreValue) : Type 0 where
  pub declared : c.net.declared ≡ c.program.declared
  pub net : IsNetwork c.net
  pub many : length c.exports ≡ length c.net.devices
  pub exports : AllExports (program_of c) c.exports
  pub flying : AllFlights (program_of c) (numbers c.net.devices) c.flying

-- the program and the network stay
pub record IsSameCore (old new : CoreValue) : Type 0 where
  pub program : new.program ≡ old.program
  pub net : new.net ≡ old.net

-- ---- ends of firings

-- what was evaluated is the copy with which its device flies, if it flies
abbrev pub FiresFlight : Unfolding → Core → FiredValue → Type 0
FiresFlight U c f = (s : Copy) → c.flying f.snap.device ≡ Some s → s ≡ snap_copy U f.snap

-- the export that was evaluated is put in the table, and no other is another
abbrev pub Publishes : Unfolding → Core → FiredValue → Core → Type 0
Publishes U c f next = next.exports ≡ put c.exports f.snap.device (Some (tree_of U f.export))
