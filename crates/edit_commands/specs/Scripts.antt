-- Scripts: each line is judged against the network that the lines before leave, and firings and scrambles are counted.
use Rattle.std.specs.Prelude.{ℕ, Bool, true, false, ◌≡◌, ◌+◌, ◌*◌, nat_le, nat_lt, if◌then◌else◌, is_some}
use Rattle.std.specs.Prelude.{List, [], ◌∷◌, length, Option, Some, None, option_map, option_and_then, codes}
use Rattle.std.specs.Option.{option_or}
use Rattle.std.specs.Str.{bytes_eq}
use Rattle.fc_values.specs.Types.{Input}
use Rattle.fc_nodes.specs.Program.{Unfolding}
use Rattle.topology.specs.Networks.{Network}
use Rattle.firing_core.specs.Cores.{Core, EditFits}
use Rattle.firing_core.specs.Entries.{EditValue, edit_of}
use Rattle.edit_commands.specs.declared.types.ScriptCommand.{ScriptCommand}
use Rattle.edit_commands.specs.declared.types.ScriptCommand.TheVariants as command
use Rattle.edit_commands.specs.declared.types.Line.{Line}
use Rattle.edit_commands.specs.declared.types.Fault.{Fault}
use Rattle.edit_commands.specs.declared.types.Fault.TheVariants as fault
use Rattle.edit_commands.specs.declared.types.ScriptFault.{ScriptFault}
use Rattle.edit_commands.specs.declared.types.ScriptFault.TheVariants as script
use Rattle.edit_commands.specs.declared.scripts.TheConstants.{MOST_LINES, MOST_SCRAMBLES, MOST_FIRINGS}
use Rattle.edit_commands.specs.declared.scripts.ScriptWord.{ScriptWord}
use Rattle.edit_commands.specs.declared.scripts.ScriptWord.TheVariants as first
use Rattle.fc_io.specs.Lines.{lines_of}
use Rattle.edit_commands.specs.Lines.{words_of}
use Rattle.fc_values.specs.Numbers.{number_of}
use Rattle.edit_commands.specs.EditLines.{EditLine, LinkLine, UnlinkLine, SetLine, PokeLine, JoinLine, LeaveLine, with_two, edit_line}
use Rattle.edit_commands.specs.LineByLine.{Judgement, Refused, unless_fault, Lines, StopsAt, lines_from, Does, SaidBy}
use Rattle.edit_commands.specs.Judging.{edit_line_fault, edited_network, IsEdit}

-- a line of a script: rounds, an edit, the rubbish of a number, the values, or an edit among firings and then rounds
pub data ScriptLine : Type 0 where
  RunLine : ℕ → ScriptLine
  DoLine : EditLine → ScriptLine
  ScrambleLine : ℕ → ScriptLine
  ShowLine : ScriptLine
  MixLine : ℕ → EditLine → ScriptLine

-- ---- what a line says

-- at least one round
abbrev pub if_some : ℕ → Option ℕ
if_some n = if nat_le 1 n then Some n else None

abbrev pub written_rounds : List ℕ → Option ℕ
written_rounds word = option_and_then if_some (number_of word)

-- an edit that may stand among firings
abbrev pub if_mixed : EditLine → Option EditLine
if_mixed (LinkLine a b w) = Some (LinkLine a b w)
if_mixed (UnlinkLine a b) = Some (UnlinkLine a b)
if_mixed (SetLine d i v) = Some (SetLine d i v)
if_mixed (PokeLine d v ks) = Some (PokeLine d v ks)
if_mixed (JoinLine x) = None
if_mixed (LeaveLine d) = None

-- the words of an edit
abbrev pub do_line : List Input → List (List ℕ) → Option ScriptLine
do_line is words = option_map DoLine (edit_line is words)

-- those of an edit among firings, and with the rounds after it
abbrev pub mixed_edit : List Input → List (List ℕ) → Option EditLine
mixed_edit is words = option_and_then if_mixed (edit_line is words)

abbrev pub mixed_line : ℕ → List Input → List (List ℕ) → Option ScriptLine
mixed_line rounds is words = option_map (MixLine rounds) (mixed_edit is words)

-- the words after the first one
abbrev pub run_line : List (List ℕ) → Option ScriptLine
run_line (r ∷ []) = option_map RunLine (written_rounds r)
run_line words = None

abbrev pub scramble_line : List (List ℕ) → Option ScriptLine
scramble_line (n ∷ []) = option_map ScrambleLine (number_of n)
scramble_line words = None

abbrev pub show_line : List (List ℕ) → Option ScriptLine
show_line [] = Some ShowLine
show_line (word ∷ words) = None

abbrev pub mix_line : List Input → List (List ℕ) → Option ScriptLine
mix_line is [] = None
mix_line is (r ∷ words) = with_two MixLine (written_rounds r) (mixed_edit is words)

-- what the first word says that isn't that of an edit
abbrev pub script_word : List ℕ → Option ScriptWord
script_word word =
    if bytes_eq word (codes "run") then Some first.Run else
    if bytes_eq word (codes "mix") then Some first.Mix else
    if bytes_eq word (codes "scramble") then Some first.Scramble else
    if bytes_eq word (codes "show") then Some first.Show else None

abbrev pub script_line_by : List Input → Option ScriptWord → List ℕ → List (List ℕ) → Option ScriptLine
script_line_by is None word words = do_line is (word ∷ words)
script_line_by is (Some first.Run) word words = run_line words
script_line_by is (Some first.Mix) word words = mix_line is words
script_line_by is (Some first.Scramble) word words = scramble_line words
script_line_by is (Some first.Show) word words = show_line words

-- the words of a line
abbrev pub script_line : List Input → List (List ℕ) → Option ScriptLine
script_line is [] = None
script_line is (word ∷ words) = script_line_by is (script_word word) word words

-- ---- judging

-- what the lines before leave: the network, whether a `run` or a `mix` has ended all flights, scrambles and firings
pub record Progress : Type 0 where
  pub net : Network
  pub quiet : Bool
  pub scrambles : ℕ
  pub firings : ℕ

abbrev pub at_start : Network → Progress
at_start n = record { net = n; quiet = false; scrambles = 0; firings = 0 }

-- which devices are known to fly: those of the core at the start, until a `run` or a `mix`
abbrev pub flies : Core → Bool → ℕ → Bool
flies start true d = false
flies start false d = is_some (start.flying d)

-- the firings up to so many rounds more
abbrev pub firings_after : Progress → ℕ → ℕ
firings_after p rounds = p.firings + rounds * length p.net.devices

-- the fault of a line: one of its own, or that it passes a limit, with the count that is reached
pub data ScriptLineFault : Type 0 where
  OfLine : Fault → ScriptLineFault
  OfScrambles : ℕ → ScriptLineFault
  OfFirings : ℕ → ScriptLineFault

abbrev pub firings_fault : Progress → ℕ → Option ScriptLineFault
firings_fault p rounds =
    if nat_lt MOST_FIRINGS (firings_after p rounds) then Some (OfFirings (firings_after p rounds)) else None

-- The first fault of a line. In a `mix` the firings are counted before its edit is judged, which is no `leave`.
abbrev pub script_line_fault : Unfolding → Core → Progress → ScriptLine → Option ScriptLineFault
script_line_fault U start p (RunLine r) = firings_fault p r
script_line_fault U start p (DoLine l) = option_map OfLine (edit_line_fault U p.net (flies start p.quiet) l)
script_line_fault U start p (ScrambleLine n) =
    if nat_le MOST_SCRAMBLES p.scrambles then Some (OfScrambles (p.scrambles + 1)) else None
script_line_fault U start p ShowLine = None
script_line_fault U start p (MixLine r l) =
    option_or (firings_fault p (r + 1)) (option_map OfLine (edit_line_fault U p.net (λ d. false) l))

abbrev pub with_firings : Progress → ℕ → Progress
with_firings p rounds = record p { quiet = true; firings = firings_after p rounds }

abbrev pub with_edit : Progress → EditLine → Progress
with_edit p l = record p { net = edited_network p.net l }

abbrev pub progress_after : Progress → ScriptLine → Progress
progress_after p (RunLine r) = with_firings p r
progress_after p (DoLine l) = with_edit p l
progress_after p (ScrambleLine n) = record p { scrambles = p.scrambles + 1 }
progress_after p ShowLine = p
progress_after p (MixLine r l) = with_edit (with_firings p (r + 1)) l

-- the words of a line, judged
abbrev pub script_line_judged : Unfolding → Core → Progress → Option ScriptLine → Judgement ScriptLineFault ScriptLine
script_line_judged U start p None = Refused (OfLine fault.Form)
script_line_judged U start p (Some l) = unless_fault (script_line_fault U start p l) l

abbrev pub script_text_judged : Unfolding → Core → Progress → List ℕ → Judgement ScriptLineFault ScriptLine
script_text_judged U start p text = script_line_judged U start p (script_line p.net.declared.inputs (words_of text))

-- a script: too many lines, or its lines up to the first that has a fault
pub data Script : Type 0 where
  TooManyLines : ℕ → Script
  Within : Lines ScriptLineFault ScriptLine → Script

unfoldable pub lines_in : Unfolding → Core → List ℕ → Lines ScriptLineFault ScriptLine
lines_in U start text = lines_from (script_text_judged U start) progress_after (at_start start.net) 1 (lines_of text)

abbrev pub script_of : Unfolding → Core → List ℕ → Script
script_of U start text =
    if nat_lt MOST_LINES (length (lines_of text))
    then TooManyLines (length (lines_of text))
    else Within (lines_in U start text)

-- ---- commands

-- what a command asks for
pub data CommandValue : Type 0 where
  RunCommand : ℕ → CommandValue
  EditCommand : EditValue → CommandValue
  ScrambleCommand : ℕ → CommandValue
  ShowCommand : CommandValue
  MixCommand : ℕ → EditValue → CommandValue

abbrev pub command_of : ScriptCommand → CommandValue
command_of (command.Run r) = RunCommand r
command_of (command.Edit e) = EditCommand (edit_of e)
command_of (command.Scramble n) = ScrambleCommand n
command_of command.Show = ShowCommand
command_of (command.Mix r e) = MixCommand r (edit_of e)

-- the edit of a command, if it has one
abbrev pub DoesOnly : Unfolding → EditLine → CommandValue → Type 0
DoesOnly U l (RunCommand r) = ⊥
DoesOnly U l (EditCommand e) = IsEdit U l e
DoesOnly U l (ScrambleCommand n) = ⊥
DoesOnly U l ShowCommand = ⊥
DoesOnly U l (MixCommand r e) = ⊥

abbrev pub DoesAmong : Unfolding → ℕ → EditLine → CommandValue → Type 0
DoesAmong U rounds l (RunCommand r) = ⊥
DoesAmong U rounds l (EditCommand e) = ⊥
DoesAmong U rounds l (ScrambleCommand n) = ⊥
DoesAmong U rounds l ShowCommand = ⊥
DoesAmong U rounds l (MixCommand r e) = (r ≡ rounds) × IsEdit U l e

-- the command that a line says
abbrev pub IsCommand : Unfolding → ScriptLine → CommandValue → Type 0
IsCommand U (RunLine r) c = c ≡ RunCommand r
IsCommand U (DoLine l) c = DoesOnly U l c
IsCommand U (ScrambleLine n) c = c ≡ ScrambleCommand n
IsCommand U ShowLine c = c ≡ ShowCommand
IsCommand U (MixLine r l) c = DoesAmong U r l c

-- a poked export is one of the program, and a joined device has a number of at most 65,535
abbrev pub CommandFits : Unfolding → CommandValue → Type 0
CommandFits U (RunCommand r) = Unit {0}
CommandFits U (EditCommand e) = EditFits U e
CommandFits U (ScrambleCommand n) = Unit {0}
CommandFits U ShowCommand = Unit {0}
CommandFits U (MixCommand r e) = EditFits U e

abbrev pub AllCommandsFit : Unfolding → List (ℕ × CommandValue) → Type 0
AllCommandsFit U [] = Unit {0}
AllCommandsFit U (c ∷ cs) = CommandFits U c.1 × AllCommandsFit U cs

-- a command that a line says, with what the lines up to it leave
abbrev pub DoesCommand : Unfolding → Progress → Progress → CommandValue → ScriptLine → Type 0
DoesCommand U p after c l = Does progress_after (IsCommand U) (CommandFits U) p after c l

-- the commands of a script in which no line has a fault, with the numbers of their lines
abbrev pub AreCommands : Unfolding → Core → List ℕ → List (ℕ × CommandValue) → Type 0
AreCommands U start text cs = SaidBy (IsCommand U) cs (lines_in U start text)

abbrev pub SaidByScript : Unfolding → List (ℕ × CommandValue) → Script → Type 0
SaidByScript U cs (TooManyLines count) = ⊥
SaidByScript U cs (Within ls) = SaidBy (IsCommand U) cs ls

abbrev pub IsScript : Unfolding → Core → List ℕ → List (ℕ × CommandValue) → Type 0
IsScript U start text cs = SaidByScript U cs (script_of U start text)

abbrev pub numbered : Line → ℕ × CommandValue
numbered l = (l.number, command_of l.command)

-- the fault of the lines of a script. Want of memory is always allowed
abbrev pub RefusesLines : Unfolding → Core → List ℕ → ScriptFault → Type 0
RefusesLines U start text (script.At k f) = lines_in U start text ≡ StopsAt k (OfLine f)
RefusesLines U start text (script.Lines count) = ⊥
RefusesLines U start text (script.Scrambles count) = (k : ℕ) × (lines_in U start text ≡ StopsAt k (OfScrambles count))
RefusesLines U start text (script.Firings count) = (k : ℕ) × (lines_in U start text ≡ StopsAt k (OfFirings count))
RefusesLines U start text script.Memory = Unit {0}

-- the fault of a script
abbrev pub RefusesScript : Unfolding → Core → List ℕ → ScriptFault → Type 0
RefusesScript U start text (script.At k f) = script_of U start text ≡ Within (StopsAt k (OfLine f))
RefusesScript U start text (script.Lines count) = script_of U start text ≡ TooManyLines count
RefusesScript U start text (script.Scrambles count) =
    (k : ℕ) × (script_of U start text ≡ Within (StopsAt k (OfScrambles count)))
RefusesScript U start text (script.Firings count) =
    (k : ℕ) × (script_of U start text ≡ Within (StopsAt k (OfFirings count)))
RefusesScript U start text script.Memory = Unit {0}
