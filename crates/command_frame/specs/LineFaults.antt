-- What is at fault in a line, as refusals name it.
use Rattle.std.specs.Prelude.{Option, Some, None}
use Rattle.topology.specs.declared.types.NetFault.TheVariants as net
use Rattle.firing_core.specs.declared.entries.StepFault.{StepFault}
use Rattle.firing_core.specs.declared.entries.StepFault.TheVariants as step
use Rattle.edit_commands.specs.declared.types.Fault.{Fault}
use Rattle.edit_commands.specs.declared.types.Fault.TheVariants as line
use Rattle.command_frame.specs.declared.refusal.LineFault.{LineFault}
use Rattle.command_frame.specs.declared.refusal.LineFault.TheVariants.{Form, Net, Kept, Flying, NotFlying}

-- a fault that is found in a line by itself
abbrev pub fault_in : Fault → LineFault
fault_in line.Form = Form
fault_in (line.Net fault) = Net fault
fault_in line.Kept = Kept

-- why a begin or an end has no step. Want of memory is no reason
abbrev pub step_fault : StepFault → Option LineFault
step_fault step.NoDevice = Some (Net net.NoDevice)
step_fault step.Flying = Some Flying
step_fault step.NotFlying = Some NotFlying
step_fault step.Memory = None
