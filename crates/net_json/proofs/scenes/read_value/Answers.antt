use Rattle.std.proofs.Common.{map, option_map}
use Rattle.std.specs.Prelude.{codes}
use Rattle.std.proofs.lemmas.Result.{err_from_is_err_and}
use Rattle.serde_json.specs.View.{view, items_view}
use Rattle.fc_nodes.specs.Program.{unfolding_of}
use Rattle.net_json.specs.Judging.{Accepted, if_accepted}
use Rattle.net_json.specs.Copies.{copies_judged}
use Rattle.net_json.specs.SceneCode.{row_of}
use Rattle.net_json.specs.Scenes.{scene_path, scene_form, SceneForm, network_judged, or_empty}
use Rattle.net_json.specs.Tables.{table_judged}
use Rattle.net_json.proofs.Judgements.{refused_next, refused_later}
use Rattle.net_json.proofs.scenes.read_value.Goals as goal

pub returns-in_err-pending-clause-refused : goal.returns-in_err-pending-clause-refused
returns-in_err-pending-clause-refused c =
    let U = unfolding_of c.args.program.now in
    let d = view c.args.value.now in
    let f = c.in_err-pending.field-0.0 in
    let p = err_from_is_err_and c.from_residual-in_err-pending.result c.from_residual-in_err-pending.ensures.1 in
    let form : SceneForm = record { devices = items_view c.in_ok-form.form.devices.now; links = items_view c.in_ok-form.form.links.now; table = or_empty (option_map (λ v. view v.now) c.in_ok-form.form.table); pending = items_view c.in_ok-form.form.pending.now } in
    let n = c.in_ok-net.net in
    let rows = map (row_of U) c.in_ok-table.table.items in
    rw (p.1, p.2) (refused_later (scene_form d)
    (λ form. if_accepted (network_judged U form.devices form.links) (λ n. if_accepted (table_judged U n (scene_path (codes "table")) form.table) (λ rows. if_accepted (copies_judged U n (scene_path (codes "pending")) form.pending) (λ copies. Accepted (record { net = n; table = rows; pending = copies })))))
    form f c.in_ok-form.ensures.ok
    (refused_later (network_judged U form.devices form.links)
    (λ n. if_accepted (table_judged U n (scene_path (codes "table")) form.table) (λ rows. if_accepted (copies_judged U n (scene_path (codes "pending")) form.pending) (λ copies. Accepted (record { net = n; table = rows; pending = copies }))))
    n f c.in_ok-net.ensures.ok
    (refused_later (table_judged U n (scene_path (codes "table")) form.table)
    (λ rows. if_accepted (copies_judged U n (scene_path (codes "pending")) form.pending) (λ copies. Accepted (record { net = n; table = rows; pending = copies })))
    rows f c.in_ok-table.ensures.ok
    (refused_next (copies_judged U n (scene_path (codes "pending")) form.pending) (λ copies. Accepted (record { net = n; table = rows; pending = copies })) f
    c.in_err-pending.ensures.refused))))
