use Rattle.std.proofs.Common.{ℕ, map}
use Rattle.std.specs.List.{All}
use Rattle.std.specs.Borrow.{Bor}
use Rattle.fc_values.specs.declared.exports.Export.{Export}
use Rattle.value_trees.specs.Snaps.{IsExportOf}
use Rattle.firing_core.specs.CoreViews.{core_of, program_of}
use Rattle.net_json.specs.SceneCode.{borrowed_row}
use Rattle.command_frame.proofs.Rows.{IsTo}
use Rattle.command_frame.proofs.tables.table.Given as goal

abbrev pub invariant-loop-device : goal.invariant-loop-device
invariant-loop-device l =
    IsTo (program_of l.core) (core_of l.core) l.device-items (map (borrowed_row (program_of l.core)) l.rows.items)
    l.device-index
    × All (λ (r : ℕ × Bor Export). IsExportOf (program_of l.core) r.1.now) l.rows.items
