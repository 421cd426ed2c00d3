-- Scenes in code: what they stand for, and what their rows and copies are.
use Rattle.std.specs.Prelude.{ℕ, List, map}
use Rattle.std.specs.Borrow.{Bor}
use Rattle.std.specs.List.{All}
use Rattle.fc_values.specs.declared.exports.Export.{Export}
use Rattle.fc_values.specs.Fields.{Rises}
use Rattle.fc_nodes.specs.Program.{Unfolding}
use Rattle.value_trees.specs.declared.copies.Snap.{Snap}
use Rattle.value_trees.specs.Snaps.{tree_of, snap_copy, IsExportOf, IsSnap}
use Rattle.topology.specs.Networks.{Network, Lives}
use Rattle.net_json.specs.declared.types.Scene.{Scene}
use Rattle.net_json.specs.Tables.{Row}
use Rattle.net_json.specs.Scenes.{SceneValue}

abbrev pub row_of : Unfolding → ℕ × Export → Row
row_of U r = (r.0, tree_of U r.1)

abbrev pub borrowed_row : Unfolding → ℕ × Bor Export → Row
borrowed_row U r = (r.0, tree_of U r.1.now)

-- what a scene stands for
abbrev pub value_of_scene : Unfolding → Scene → SceneValue
value_of_scene U s = record {
  net = s.net;
  table = map (row_of U) s.table.items;
  pending = map (snap_copy U) s.pending.items;
}

-- a row of a device that is there, with a well-typed export
pub record IsRow (U : Unfolding) (n : Network) (r : ℕ × Export) : Type 0 where
  pub there : Lives n r.0
  pub export : IsExportOf U r.1

-- rows of devices that are there, rising, with well-typed exports
pub record AreRows (U : Unfolding) (n : Network) (rows : List (ℕ × Export)) : Type 0 where
  pub rising : Rises (map (λ (r : ℕ × Export). r.0) rows)
  pub there : All (λ (r : ℕ × Export). Lives n r.0) rows
  pub exports : All (λ (r : ℕ × Export). IsExportOf U r.1) rows

-- a copy of a device that is there, that fits
pub record IsCopy (U : Unfolding) (n : Network) (s : Snap) : Type 0 where
  pub there : Lives n s.device
  pub snap : IsSnap U s

-- copies of devices that are there, rising, that fit
pub record AreCopies (U : Unfolding) (n : Network) (copies : List Snap) : Type 0 where
  pub rising : Rises (map (λ (s : Snap). s.device) copies)
  pub there : All (λ (s : Snap). Lives n s.device) copies
  pub fit : All (IsSnap U) copies
