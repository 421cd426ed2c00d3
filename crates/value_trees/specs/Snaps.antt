-- Copies in code, and the copies that they stand for.
use Rattle.std.specs.Prelude.{List, [], ◌∷◌, map, option_map}
use Rattle.fc_values.specs.declared.exports.Export.{Export}
use Rattle.fc_values.specs.Values.{local_of}
use Rattle.fc_values.specs.Exports.{export_of}
use Rattle.fc_values.specs.Trees.{TreeExport, NearCopy, Copy}
use Rattle.fc_nodes.specs.Program.{Unfolding}
use Rattle.fc_nodes.specs.Flat.{IsExport, tree_export}
use Rattle.value_trees.specs.declared.copies.Near.{Near}
use Rattle.value_trees.specs.declared.copies.Snap.{Snap}
use Rattle.value_trees.specs.Copies.{FitsCopy, WhereSome}

-- the export that an export in code stands for
abbrev pub tree_of : Unfolding → Export → TreeExport
tree_of U e = tree_export U (export_of e)

abbrev pub near_copy : Unfolding → Near → NearCopy
near_copy U n = record { device = n.device; weight = n.weight; export = tree_of U n.export }

-- the copy that a copy in code stands for
abbrev pub snap_copy : Unfolding → Snap → Copy
snap_copy U s = record {
  device = s.device;
  inputs = map local_of s.inputs.items;
  own = option_map (tree_of U) s.own;
  near = map (near_copy U) s.near.items;
}

-- an export in code that stands for an export of a program
abbrev pub IsExportOf : Unfolding → Export → Type 0
IsExportOf U e = IsExport U (export_of e)

abbrev pub NearAreExports : Unfolding → List Near → Type 0
NearAreExports U [] = Unit {0}
NearAreExports U (n ∷ ns) = IsExportOf U n.export × NearAreExports U ns

-- a copy in code that stands for a copy that fits: what a firing of a program may read
pub record IsSnap (U : Unfolding) (s : Snap) : Type 0 where
  pub fits : FitsCopy U (snap_copy U s)
  pub own : WhereSome (IsExportOf U) s.own
  pub near : NearAreExports U s.near.items
