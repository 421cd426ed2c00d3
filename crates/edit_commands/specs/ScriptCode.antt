-- What contracts see of the code that reads scripts.
use Rattle.std.specs.Prelude.{ℕ, ◌≡◌, ◌≤◌, List, Option, Some}
use Rattle.std.specs.Borrow.{Bor}
use Rattle.fc_nodes.specs.Program.{Unfolding, unfolding_of}
use Rattle.firing_core.specs.Cores.{Core}
use Rattle.firing_core.specs.CoreViews.{core_of}
use Rattle.edit_commands.specs.declared.scripts.Progress.{Progress as ProgressCode}
use Rattle.edit_commands.specs.declared.scripts.LineContext.{LineContext}
use Rattle.edit_commands.specs.declared.scripts.TheConstants.{MOST_SCRAMBLES, MOST_FIRINGS}
use Rattle.edit_commands.specs.declared.types.ScriptCommand.{ScriptCommand}
use Rattle.edit_commands.specs.declared.types.Fault.{Fault}
use Rattle.edit_commands.specs.declared.types.ScriptFault.{ScriptFault}
use Rattle.edit_commands.specs.declared.types.ScriptFault.TheVariants as script
use Rattle.edit_commands.specs.Lines.{words_of}
use Rattle.edit_commands.specs.EditLines.{EditLine}
use Rattle.edit_commands.specs.LineByLine.{Judgement, Refused, WhereAccepted}
use Rattle.edit_commands.specs.Judging.{edit_line_fault}
use Rattle.edit_commands.specs.Code.{texts}
use Rattle.edit_commands.specs.Scripts.{Progress, ScriptLine, ScriptLineFault, OfLine, OfScrambles, OfFirings, DoesCommand}
use Rattle.edit_commands.specs.Scripts.{command_of, flies, script_line_judged, do_line, mixed_line, mix_line, script_line}

abbrev pub progress_of : ProgressCode → Progress
progress_of p = record { net = p.net; quiet = p.quiet; scrambles = p.scrambles; firings = p.firings }

-- no limit is passed
pub record IsWithin (p : Progress) : Type 0 where
  pub scrambles : p.scrambles ≤ MOST_SCRAMBLES
  pub firings : p.firings ≤ MOST_FIRINGS

-- what a line is judged by: the program, and the core at the start
abbrev pub program_in : LineContext → Unfolding
program_in s = unfolding_of s.program.now

abbrev pub start_in : LineContext → Core
start_in s = core_of s.core.now

-- the network has the program's declarations, and no limit is passed
pub record IsReady (s : LineContext) (p : ProgressCode) : Type 0 where
  pub declared : p.net.declared ≡ s.program.now.declared
  pub within : IsWithin (progress_of p)

-- a line, judged
abbrev pub seen : LineContext → ProgressCode → Option ScriptLine → Judgement ScriptLineFault ScriptLine
seen s p line = script_line_judged (program_in s) (start_in s) (progress_of p) line

-- the command of a line that has no fault, with what it leaves
pub record Leaves (s : LineContext) (p after : ProgressCode) (line : Option ScriptLine) (c : ScriptCommand)
    : Type 0 where
  pub does :
      WhereAccepted (DoesCommand (program_in s) (progress_of p) (progress_of after) (command_of c)) (seen s p line)
  pub within : IsWithin (progress_of after)

-- what words, and a text, say in a network with its inputs
abbrev pub edit_in : ProgressCode → List (Bor (List ℕ)) → Option ScriptLine
edit_in p words = do_line p.net.declared.inputs (texts words)

abbrev pub mixed_in : ProgressCode → ℕ → List (Bor (List ℕ)) → Option ScriptLine
mixed_in p rounds words = mixed_line rounds p.net.declared.inputs (texts words)

abbrev pub mix_in : ProgressCode → List (Bor (List ℕ)) → Option ScriptLine
mix_in p words = mix_line p.net.declared.inputs (texts words)

abbrev pub line_in : ProgressCode → List (Bor (List ℕ)) → Option ScriptLine
line_in p words = script_line p.net.declared.inputs (texts words)

abbrev pub text_in : ProgressCode → List ℕ → Option ScriptLine
text_in p text = script_line p.net.declared.inputs (words_of text)

-- the fault of an edit
abbrev pub fault_in : LineContext → ProgressCode → EditLine → Option Fault
fault_in s p line = edit_line_fault (program_in s) p.net (flies (start_in s) p.quiet) line

-- a fault in code is that of a judged line of a number. Want of memory is always allowed
abbrev pub HasLineFaultAt : {A : Type 0} → ℕ → Judgement ScriptLineFault A → ScriptFault → Type 0
HasLineFaultAt number judged (script.At k f) = (k ≡ number) × (judged ≡ Refused (OfLine f))
HasLineFaultAt number judged (script.Lines count) = ⊥
HasLineFaultAt number judged (script.Scrambles count) = judged ≡ Refused (OfScrambles count)
HasLineFaultAt number judged (script.Firings count) = judged ≡ Refused (OfFirings count)
HasLineFaultAt number judged script.Memory = Unit {0}

abbrev pub IsAtFault : LineContext → ProgressCode → Option ScriptLine → ScriptFault → Type 0
IsAtFault s p line f = HasLineFaultAt s.number (seen s p line) f

-- a fault in code is that of an edit on the line of a number. Want of memory is always allowed
abbrev pub IsFaultAt : ℕ → Option Fault → ScriptFault → Type 0
IsFaultAt number fault (script.At k f) = (k ≡ number) × (fault ≡ Some f)
IsFaultAt number fault (script.Lines count) = ⊥
IsFaultAt number fault (script.Scrambles count) = ⊥
IsFaultAt number fault (script.Firings count) = ⊥
IsFaultAt number fault script.Memory = Unit {0}
