use Rattle.fc_nodes.specs.Program.{unfolding_of}
use Rattle.net_json.specs.SceneCode.{value_of_scene}
use Rattle.command_frame.specs.Causes.{Refused}
use Rattle.command_frame.specs.Inputs.{ReadsInput}
use Rattle.command_frame.proofs.Stopping.{stop_is, stops_map}
use Rattle.command_frame.proofs.Unread.{unread}
use Rattle.fc_changes.specs.Code.{IsRefused}
use Rattle.fc_changes.specs.Commands.{BoundsText, ChecksChanges, change_lines_in}
use Rattle.fc_changes.proofs.Checking.{lines_refused}
use Rattle.fc_changes.proofs.checks.of_texts.Goals as goal

pub returns-in_err-program-clause-refused : goal.returns-in_err-program-clause-refused
returns-in_err-program-clause-refused c =
    stop_is
    (λ cause. ChecksChanges c.args.options c.args.program.now c.args.network.now c.args.changes.now (Refused cause))
    c.from_residual.result _ c.from_residual.ensures.1
    (stops_map (λ cause. ReadsInput c.args.program.now c.args.network.now (Refused cause)) _
    (λ cause k. unread (λ U s j. BoundsText c.args.options c.args.changes.now U s j) c.args.program.now
    c.args.network.now cause k)
    c.in_err-program.field-0.0 c.in_err-program.ensures.refused)

pub returns-in_err-lines-clause-refused : goal.returns-in_err-lines-clause-refused
returns-in_err-lines-clause-refused c =
    let U = unfolding_of c.in_ok-program.program in
    let s = value_of_scene U c.in_ok-program.scene in
    stop_is
    (λ cause. ChecksChanges c.args.options c.args.program.now c.args.network.now c.args.changes.now (Refused cause))
    c.from_residual-in_err-lines.result _ c.from_residual-in_err-lines.ensures.1
    (stops_map (IsRefused s.net (change_lines_in s c.args.changes.now)) _
    (λ cause k. lines_refused c.args.options c.args.program.now c.args.network.now c.args.changes.now U s
    c.in_ok-program.ensures.input cause k)
    c.in_err-lines.field-0.0 c.in_err-lines.ensures.refused)
