use Rattle.std.proofs.Common.{◌≡◌, map, take}
use Rattle.serde_json.specs.View.{view}
use Rattle.fc_nodes.specs.Program.{unfolding_of}
use Rattle.net_json.specs.SceneCode.{borrowed_row}
use Rattle.net_json.specs.TableTexts.{row_data}
use Rattle.net_json.proofs.texts.table_value.Given as goal

abbrev pub invariant-loop-row : goal.invariant-loop-row
invariant-loop-row l = map view l.rows.items ≡ map (row_data (unfolding_of l.program)) (map (borrowed_row (unfolding_of l.program)) (take l.row-index l.table))
