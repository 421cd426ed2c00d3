use Rattle.std.proofs.Common.{Some, map, ap, subst, sym, ◌∙◌, ◌≤◌}
use Rattle.serde_json.specs.Data.{Data, depth}
use Rattle.serde_json.specs.Read.{max_depth}
use Rattle.serde_json.specs.Written.{has_float, compact_text}
use Rattle.fc_nodes.specs.Program.{unfolding_of}
use Rattle.net_json.specs.SceneCode.{borrowed_row}
use Rattle.net_json.specs.TableTexts.{table_data}
use Rattle.net_json.proofs.Depths.{table_depth, rows_typed}
use Rattle.net_json.proofs.Floats.{table_plain}
use Rattle.net_json.proofs.Jsons.{json_is}
use Rattle.net_json.proofs.texts.write_table.Goals as goal

pub returns-clause-text : goal.returns-clause-text
returns-clause-text c =
    let e = c.in_ok-value.ensures.data in
    c.in_ok-text.ensures.text (ap has_float e ∙ table_plain (unfolding_of c.args.program.now) (map (borrowed_row (unfolding_of c.args.program.now)) c.args.table.now)) ∙ ap compact_text e

pub returns-clause-reads_back : goal.returns-clause-reads_back
returns-clause-reads_back c =
    let U = unfolding_of c.args.program.now in
    let rows = map (borrowed_row U) c.args.table.now in
    let e = c.in_ok-value.ensures.data in
    let program = c.in_ok-value.ensures.program in
    let low = table_depth U program.typed rows (rows_typed U c.args.table.now c.requires.exports) in
    json_is c.in_ok-text.text.items (table_data U rows) c.in_ok-text.ensures.utf8
    (c.in_ok-text.ensures.reads_back (subst (λ (d : Data). depth d ≤ max_depth) (sym e) low) ∙ ap Some e)
