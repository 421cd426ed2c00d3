-- What a core is made of: a network, a table of exports, and copies in flight.
use Rattle.std.specs.Prelude.{ℕ, List, [], ◌∷◌, map, nat_eq, if◌then◌else◌, Some, None}
use Rattle.fc_values.specs.declared.exports.Export.{Export}
use Rattle.fc_values.specs.Fields.{Rises}
use Rattle.fc_values.specs.Trees.{TreeExport, Copy}
use Rattle.fc_nodes.specs.Program.{Unfolding}
use Rattle.value_trees.specs.declared.copies.Snap.{Snap}
use Rattle.value_trees.specs.Snaps.{tree_of, snap_copy, IsExportOf, IsSnap}
use Rattle.topology.specs.Networks.{Network, Lives}
use Rattle.firing_core.specs.Cores.{Map, Core}

-- the value of the first element of a list that has a key
abbrev pub look_up : {X Y : Type 0} → (X → ℕ) → (X → Y) → List X → Map Y
look_up key value [] d = None
look_up key value (x ∷ xs) d = if nat_eq d (key x) then Some (value x) else look_up key value xs d

-- the first export of a device, and the first copy that names it
abbrev pub export_in : List (ℕ × Export) → Map Export
export_in table = look_up (λ (e : ℕ × Export). e.0) (λ (e : ℕ × Export). e.1) table

abbrev pub flight_in : List Snap → Map Snap
flight_in pending = look_up (λ (s : Snap). s.device) (λ (s : Snap). s) pending

-- the devices of a table, and those that copies name
abbrev pub owners : List (ℕ × Export) → List ℕ
owners table = map (λ (e : ℕ × Export). e.0) table

abbrev pub named : List Snap → List ℕ
named pending = map (λ (s : Snap). s.device) pending

-- the export of a device in a table
abbrev pub table_map : Unfolding → List (ℕ × Export) → Map TreeExport
table_map U table = look_up (λ (e : ℕ × Export). e.0) (λ (e : ℕ × Export). tree_of U e.1) table

-- the copy that names a device
abbrev pub pending_map : Unfolding → List Snap → Map Copy
pending_map U pending = look_up (λ (s : Snap). s.device) (snap_copy U) pending

-- the core of a network with these exports, and with these copies in flight
abbrev pub started : Unfolding → Network → List (ℕ × Export) → List Snap → Core
started U n table pending = record { net = n; exports = table_map U table; flying = pending_map U pending }

-- devices that are there
abbrev pub AllLive : Network → List ℕ → Type 0
AllLive n [] = Unit {0}
AllLive n (d ∷ ds) = Lives n d × AllLive n ds

abbrev pub TableExports : Unfolding → List (ℕ × Export) → Type 0
TableExports U [] = Unit {0}
TableExports U (e ∷ es) = IsExportOf U e.1 × TableExports U es

abbrev pub PendingSnaps : Unfolding → List Snap → Type 0
PendingSnaps U [] = Unit {0}
PendingSnaps U (s ∷ ss) = IsSnap U s × PendingSnaps U ss

-- exports of a program, of devices that rise and are there
pub record IsTable (U : Unfolding) (n : Network) (table : List (ℕ × Export)) : Type 0 where
  pub rising : Rises (owners table)
  pub there : AllLive n (owners table)
  pub exports : TableExports U table

-- copies that fit a program, of devices that rise and are there
pub record IsPending (U : Unfolding) (n : Network) (pending : List Snap) : Type 0 where
  pub rising : Rises (named pending)
  pub there : AllLive n (named pending)
  pub snaps : PendingSnaps U pending
