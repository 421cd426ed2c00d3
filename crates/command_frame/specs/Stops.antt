-- What the code stops with, and for which cause.
use Rattle.std.specs.Prelude.{ℕ, ◌≡◌, Option, Some, None}
use Rattle.fc_lexer.specs.declared.tokens.LexFault.{LexFault}
use Rattle.fc_lexer.specs.declared.tokens.LexFault.TheVariants as lex
use Rattle.fc_parser.specs.declared.faults.ParseFault.{ParseFault}
use Rattle.fc_parser.specs.declared.faults.ParseFault.TheVariants as parse
use Rattle.fc_types.specs.declared.faults.TypeFault.{TypeFault}
use Rattle.fc_types.specs.declared.faults.TypeFault.TheVariants as types
use Rattle.unfold.specs.declared.faults.UnfoldFault.{UnfoldFault}
use Rattle.unfold.specs.declared.faults.UnfoldFault.TheVariants as size_fault
use Rattle.net_json.specs.declared.types.JsonFault.{JsonFault}
use Rattle.net_json.specs.declared.types.JsonFault.TheVariants as json
use Rattle.net_json.specs.Judging.{NotJson, Misshaped, BadNetwork, BadKept, TooManyDevices}
use Rattle.command_frame.specs.declared.refusal.Refusal.TheVariants as refusal
use Rattle.command_frame.specs.declared.stop.Stop.{Stop}
use Rattle.command_frame.specs.declared.stop.Stop.TheVariants as stop
use Rattle.command_frame.specs.declared.refusal.LineFault.{LineFault}
use Rattle.command_frame.specs.Answers.{AnswerValue}
use Rattle.command_frame.specs.Refusals.{log_refusal}
use Rattle.command_frame.specs.Causes.{Cause, Plainly, InScene, answer_to}

-- the cause of a fault of a scene. Want of memory has none
abbrev pub scene_cause : JsonFault → Option Cause
scene_cause json.Json = Some (InScene NotJson)
scene_cause (json.Shape p) = Some (InScene (Misshaped p.text.items))
scene_cause (json.Net p fault) = Some (InScene (BadNetwork p.text.items fault))
scene_cause (json.Kept p place) = Some (InScene (BadKept p.text.items place))
scene_cause (json.Devices count) = Some (InScene (TooManyDevices count))
scene_cause json.Memory = None

-- the cause of a stop. Want of memory has none
abbrev pub cause_of : Stop → Option Cause
cause_of stop.Memory = None
cause_of (stop.Refused refusal) = Some (Plainly refusal)
cause_of (stop.Scene fault) = scene_cause fault

abbrev pub WhereCause : (Cause → Type 0) → Option Cause → Type 0
WhereCause P None = Unit {0}
WhereCause P (Some cause) = P cause

-- a call that judges stops for a cause of which this holds, or by want of memory
abbrev pub StopsFor : (Cause → Type 0) → Stop → Type 0
StopsFor P stop.Memory = Unit {0}
StopsFor P (stop.Refused refusal) = P (Plainly refusal)
StopsFor P (stop.Scene fault) = WhereCause P (scene_cause fault)

-- the stops of the faults of the front end
abbrev pub lex_stop : LexFault → Stop
lex_stop (lex.At at) = stop.Refused (refusal.Lexical at)
lex_stop lex.Memory = stop.Memory

abbrev pub parse_stop : ParseFault → Stop
parse_stop (parse.Tokens declaration count) = stop.Refused (refusal.Tokens count)
parse_stop (parse.Depth declaration) = stop.Refused refusal.Depth
parse_stop (parse.Syntax declaration line) = stop.Refused (refusal.Syntax declaration line)
parse_stop parse.Memory = stop.Memory

abbrev pub type_stop : TypeFault → Stop
type_stop (types.Fault declaration kind) = stop.Refused (refusal.Types declaration kind)
type_stop types.Memory = stop.Memory

abbrev pub unfold_stop : UnfoldFault → Stop
unfold_stop (size_fault.TooLarge size) = stop.Refused (refusal.Nodes size)
unfold_stop size_fault.Memory = stop.Memory

-- the stop at a line of a log, for want of memory where there is no reason
abbrev pub stop_at : ℕ → Option LineFault → Stop
stop_at line (Some fault) = stop.Refused (log_refusal line fault)
stop_at line None = stop.Memory

-- the answer to a cause. Where there is none, nothing is answered
abbrev pub IsAnswerTo : Option Cause → AnswerValue → Type 0
IsAnswerTo None answer = ⊥
IsAnswerTo (Some cause) answer = answer ≡ answer_to cause
