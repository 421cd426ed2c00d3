use mir.Syntax.{named}
use denote.Exit.{no}
use denote.Param.{param}
use denote.Param.Send.{AllSend, sendable, param_send}
use Rattle.export_table.proofs.Crosses.{pass_send}
use Rattle.export_table.proofs.Captures.{captures_send}
use Rattle.worker_pool.proofs.Crosses.{mixes_send, crew_sync}
use Rattle.worker_pool.proofs.mixes.edit_beside.Lts as closure
use Rattle.worker_pool.proofs.mixes.edit_beside.Goals as goal

-- any symbol serves as the name of the captures
pub join_mut-mixed-requires-send-F : goal.join_mut-mixed-requires-send-F
join_mut-mixed-requires-send-F g c κs within =
    let rt = c.type_bounds.sync-R in
    let crew = crew_sync (record { mir = named 11; lft = κs.1.1.1.1.1.1.1.1.1.1.1.0 }) (param 1 g.row.G) c.type_bounds.sync-G in
    let all : AllSend (closure.of-14 g.row.R g.row.G g.R.laws g.G.laws g.R.Threads-dict g.R.Wait-dict g.G.Gate-dict (record { mir = named 8; lft = κs.1.1.1.1.1.1.1.1.0 }) (record { mir = named 9; lft = κs.1.1.1.1.1.1.1.1.1.0 }) (record { mir = named 10; lft = κs.1.1.1.1.1.1.1.1.1.1.0 }) (record { mir = named 11; lft = κs.1.1.1.1.1.1.1.1.1.1.1.0 }) (record { mir = named 12; lft = κs.1.1.1.1.1.1.1.1.1.1.1.1.0 })) =
    (search (mixes_send, sendable), (search (rt, sendable), (search (crew, sendable), (search (pass_send, sendable), tt)))) in
    let one = captures_send (closure.name-0 g.row.R g.row.G g.R.laws g.G.laws g.R.Threads-dict g.R.Wait-dict g.G.Gate-dict) (closure.of-14 g.row.R g.row.G g.R.laws g.G.laws g.R.Threads-dict g.R.Wait-dict g.G.Gate-dict (record { mir = named 8; lft = κs.1.1.1.1.1.1.1.1.0 }) (record { mir = named 9; lft = κs.1.1.1.1.1.1.1.1.1.0 }) (record { mir = named 10; lft = κs.1.1.1.1.1.1.1.1.1.1.0 }) (record { mir = named 11; lft = κs.1.1.1.1.1.1.1.1.1.1.1.0 }) (record { mir = named 12; lft = κs.1.1.1.1.1.1.1.1.1.1.1.1.0 })) all in
    param_send 1 (closure.arg-0-1 g.row.R g.row.G g.R.laws g.G.laws g.R.Threads-dict g.R.Wait-dict g.G.Gate-dict κs) (record { owned = one.owned; leaving = λ _. one.leaving no })
