-- The refusals of all commands: their statuses and their lines.
use Rattle.std.specs.Prelude.{ℕ, List, [], ◌∷◌, ◌++◌, codes, Option, Some, None}
use Rattle.std.specs.Fmt.{decimal}
use Rattle.topology.specs.declared.types.NetFault.{NetFault}
use Rattle.topology.specs.declared.types.NetFault.TheVariants as net
use Rattle.command_frame.specs.declared.refusal.LineFault.{LineFault}
use Rattle.command_frame.specs.declared.refusal.LineFault.TheVariants as line_fault
use Rattle.command_frame.specs.declared.refusal.Refusal.{Refusal}
use Rattle.command_frame.specs.declared.refusal.Refusal.TheVariants.{Usage, Workers, Bytes, Sections, Lexical, Tokens}
use Rattle.command_frame.specs.declared.refusal.Refusal.TheVariants.{Depth, Syntax, Types, Nodes, Devices, Degree, Pairs}
use Rattle.command_frame.specs.declared.refusal.Refusal.TheVariants.{Lines, Scrambles, Firings}
use Rattle.command_frame.specs.declared.refusal.Refusal.TheVariants.{Script, Log, Changes, Mail}
use Rattle.command_frame.specs.Answers.{AnswerValue, plain}
use Rattle.command_frame.specs.FaultWords.{kind_word, line_word}

-- a text with its line feed
abbrev pub line : List ℕ → List ℕ
line text = text ++ 10 ∷ []

-- the line that a refusal writes
abbrev pub refusal_line : Refusal → List ℕ
refusal_line Usage = line (codes "usage: fc check|stable|run|replay|format|gen|trace|mail")
refusal_line (Workers count) = line (codes "limit workers " ++ decimal count)
refusal_line Bytes = line (codes "limit bytes 1048577")
refusal_line (Sections count) = line (codes "sections " ++ decimal count)
refusal_line (Lexical at) = line (codes "lexical " ++ decimal at)
refusal_line (Tokens count) = line (codes "limit tokens " ++ decimal count)
refusal_line Depth = line (codes "limit depth 201")
refusal_line (Syntax declaration at) = line (codes "syntax " ++ decimal declaration ++ codes " " ++ decimal at)
refusal_line (Types declaration kind) = line (codes "types " ++ decimal declaration ++ codes " " ++ kind_word kind)
refusal_line (Nodes size) = line (codes "limit nodes " ++ decimal size)
refusal_line (Devices count) = line (codes "limit devices " ++ decimal count)
refusal_line Degree = line (codes "limit degree 33")
refusal_line Pairs = line (codes "limit degree 129")
refusal_line (Lines count) = line (codes "limit lines " ++ decimal count)
refusal_line (Scrambles count) = line (codes "limit scrambles " ++ decimal count)
refusal_line (Firings count) = line (codes "limit firings " ++ decimal count)
refusal_line (Script at fault) = line (codes "script " ++ decimal at ++ codes " " ++ line_word fault)
refusal_line (Log at fault) = line (codes "log " ++ decimal at ++ codes " " ++ line_word fault)
refusal_line (Changes at fault) = line (codes "changes " ++ decimal at ++ codes " " ++ line_word fault)
refusal_line (Mail count) = line (codes "limit mail " ++ decimal count)

-- the status of a refusal: 2 for the words, 4 for a limit, and 3 for all else
abbrev pub status_of : Refusal → ℕ
status_of Usage = 2
status_of (Workers count) = 4
status_of Bytes = 4
status_of (Sections count) = 3
status_of (Lexical at) = 3
status_of (Tokens count) = 4
status_of Depth = 4
status_of (Syntax declaration line) = 3
status_of (Types declaration kind) = 3
status_of (Nodes size) = 4
status_of (Devices count) = 4
status_of Degree = 4
status_of Pairs = 4
status_of (Lines count) = 4
status_of (Scrambles count) = 4
status_of (Firings count) = 4
status_of (Script at fault) = 3
status_of (Log at fault) = 3
status_of (Changes at fault) = 3
status_of (Mail count) = 4

-- the answer of a refusal
abbrev pub refused : Refusal → AnswerValue
refused refusal = plain (status_of refusal) (refusal_line refusal)

-- the limit that a network's refusal is: too many links of a device, or too many devices at a join
abbrev pub network_limit : NetFault → Option Refusal
network_limit net.Degree = Some Degree
network_limit net.Devices = Some (Devices 1025)
network_limit net.Twice = None
network_limit net.NoDevice = None
network_limit net.SelfLink = None
network_limit net.Weight = None
network_limit net.NoLink = None
network_limit net.NoInput = None
network_limit net.InputType = None
network_limit net.InputRange = None
network_limit net.InFlight = None
network_limit net.Last = None

abbrev pub or_refusal : Option Refusal → Refusal → Refusal
or_refusal None refusal = refusal
or_refusal (Some limit) refusal = limit

-- the limit that a fault of a line is
abbrev pub limit_in : LineFault → Option Refusal
limit_in line_fault.Form = None
limit_in (line_fault.Net fault) = network_limit fault
limit_in line_fault.Kept = None
limit_in line_fault.Flying = None
limit_in line_fault.NotFlying = None
limit_in line_fault.Empty = None

-- the refusal of a line of a log, and of one of a script: a limit, or the line with the word of its fault
abbrev pub log_refusal : ℕ → LineFault → Refusal
log_refusal at fault = or_refusal (limit_in fault) (Log at fault)

abbrev pub script_refusal : ℕ → LineFault → Refusal
script_refusal at fault = or_refusal (limit_in fault) (Script at fault)

-- the limit that a fault of a line of changes is: of a device in more pairs than it may be in, that limit, which is
-- another than that of links
abbrev pub pairs_limit_of : NetFault → Option Refusal
pairs_limit_of net.Degree = Some Pairs
pairs_limit_of net.Devices = Some (Devices 1025)
pairs_limit_of net.Twice = None
pairs_limit_of net.NoDevice = None
pairs_limit_of net.SelfLink = None
pairs_limit_of net.Weight = None
pairs_limit_of net.NoLink = None
pairs_limit_of net.NoInput = None
pairs_limit_of net.InputType = None
pairs_limit_of net.InputRange = None
pairs_limit_of net.InFlight = None
pairs_limit_of net.Last = None

abbrev pub pairs_limit : LineFault → Option Refusal
pairs_limit line_fault.Form = None
pairs_limit (line_fault.Net fault) = pairs_limit_of fault
pairs_limit line_fault.Kept = None
pairs_limit line_fault.Flying = None
pairs_limit line_fault.NotFlying = None
pairs_limit line_fault.Empty = None

-- the refusal of a line of changes
abbrev pub changes_refusal : ℕ → LineFault → Refusal
changes_refusal at fault = or_refusal (pairs_limit fault) (Changes at fault)
