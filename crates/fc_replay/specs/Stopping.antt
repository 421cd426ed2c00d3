-- Where a log is refused: at a line, or at an entry that has no step.
use Rattle.std.specs.Prelude.{ℕ, List, [], ◌∷◌, map, Option, Some, None}
use Rattle.fc_nodes.specs.Program.{Unfolding}
use Rattle.topology.specs.declared.types.NetFault.{NetFault}
use Rattle.firing_core.specs.declared.entries.StepFault.{StepFault}
use Rattle.firing_core.specs.Cores.{Core}
use Rattle.firing_core.specs.Entries.{EntryValue}
use Rattle.firing_core.specs.Replays.{fault_of, net_fault_of, step_of}
use Rattle.command_frame.specs.declared.refusal.LineFault.{LineFault}
use Rattle.command_frame.specs.declared.refusal.LineFault.TheVariants.{Net}
use Rattle.command_frame.specs.LineFaults.{step_fault}

-- an entry of a log, with the number of its line
abbrev pub Logged : Type 0
Logged = ℕ × EntryValue

abbrev pub entries_in : List Logged → List EntryValue
entries_in log = map (λ (e : Logged). e.1) log

-- why an entry has no step from a core
abbrev pub no_step : Option StepFault → Option NetFault → Option LineFault
no_step (Some fault) edit = step_fault fault
no_step None (Some fault) = Some (Net fault)
no_step None None = None

-- the first line whose entry has no step, and why
abbrev pub stop_here : ℕ → Option LineFault → Option (ℕ × LineFault) → Option (ℕ × LineFault)
stop_here at (Some fault) later = Some (at, fault)
stop_here at None later = later

abbrev pub stop_later : Option Core → (Core → Option (ℕ × LineFault)) → Option (ℕ × LineFault)
stop_later None later = None
stop_later (Some core) later = later core

abbrev pub first_stop : Unfolding → Core → List Logged → Option (ℕ × LineFault)
first_stop U c [] = None
first_stop U c (e ∷ es) =
    stop_here e.0 (no_step (fault_of c e.1) (net_fault_of c e.1))
    (stop_later (step_of U c e.1) (λ next. first_stop U next es))
