-- A firing that was evaluated.
use Rattle.fc_values.specs.declared.exports.Export.{Export}
use Rattle.fc_nodes.specs.Program.{Program, unfolding_of}
use Rattle.value_trees.specs.declared.copies.Snap.{Snap}
use Rattle.device_eval.specs.Copies.{EvaluatesCopy}
use Rattle.value_trees.specs.Snaps.{IsSnap, IsExportOf, snap_copy, tree_of}

-- what contracts see of it: the program, the copy that it read, and the export
pub record FiredValue : Type 0 where
  pub program : Program
  pub snap : Snap
  pub export : Export

-- the copy fits the program, and the export is the evaluation of the copy
pub record IsFired (f : FiredValue) : Type 0 where
  pub snap : IsSnap (unfolding_of f.program) f.snap
  pub export : IsExportOf (unfolding_of f.program) f.export
  pub evaluates : EvaluatesCopy (unfolding_of f.program)
      (snap_copy (unfolding_of f.program) f.snap) (tree_of (unfolding_of f.program) f.export)
