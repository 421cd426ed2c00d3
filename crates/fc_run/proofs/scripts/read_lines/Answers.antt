use Rattle.std.proofs.Common.{subst, sym}
use Rattle.fc_nodes.specs.Program.{unfolding_of}
use Rattle.firing_core.specs.CoreViews.{core_of}
use Rattle.edit_commands.specs.Scripts.{script_of}
use Rattle.command_frame.specs.Stops.{StopsFor}
use Rattle.fc_run.specs.Code.{IsRefused}
use Rattle.fc_run.proofs.Running.{stops_script}
use Rattle.fc_run.proofs.scripts.read_lines.Goals as goal

pub returns-in-Err-clause-refused : goal.returns-in-Err-clause-refused
returns-in-Err-clause-refused c =
    subst (StopsFor (IsRefused (script_of (unfolding_of c.args.program.now) (core_of c.args.core.now)
    c.args.text.now))) (sym c.script_stop.ensures)
    (stops_script (unfolding_of c.args.program.now) (core_of c.args.core.now) c.args.text.now c.in-Err.fault
    c.in-Err.ensures.refused)
