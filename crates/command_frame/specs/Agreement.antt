-- When two answers to one input agree.
use Rattle.std.specs.Prelude.{Bool, true, false, ◌≡◌, Option, Some, None}
use Rattle.edit_commands.specs.Agreement.{SameEntries}
use Rattle.command_frame.specs.Causes.{Judged, Accepted, Refused}
use Rattle.command_frame.specs.Answers.{AnswerValue}
use Rattle.command_frame.specs.Ledgers.{Ledger}

-- something holds of two books, or there is none
abbrev pub OfBooks : (Ledger → Ledger → Type 0) → Option Ledger → Option Ledger → Type 0
OfBooks P (Some a) (Some b) = P a b
OfBooks P (Some a) None = ⊥
OfBooks P None (Some b) = ⊥
OfBooks P None None = Unit {0}

-- the logs of two books agree: they may differ in what an export holds at the places of a branch that isn't taken
abbrev pub SameLog : Ledger → Ledger → Type 0
SameLog a b = SameEntries a.program a.log b.log

-- Two logs of one program from one start agree and lead to one core. Where threads make them, they may differ in how
-- the threads took turns.
abbrev pub SameEnd : Bool → Ledger → Ledger → Type 0
SameEnd true a b = Unit {0}
SameEnd false a b = SameLog a b × (a.core ≡ b.core)

pub record SameBook (threads : Bool) (a b : Ledger) : Type 0 where
  pub program : a.program ≡ b.program
  pub start : a.start ≡ b.start
  pub end : SameEnd threads a b

-- a text is one, or, where threads make the log, it is one for logs that agree
abbrev pub SameText : Bool → AnswerValue → AnswerValue → Type 0
SameText false a b = a.text ≡ b.text
SameText true a b = OfBooks SameLog a.book b.book → a.text ≡ b.text

pub record AnswersAgree (threads : Bool) (a b : AnswerValue) : Type 0 where
  pub status : a.status ≡ b.status
  pub books : OfBooks (SameBook threads) a.book b.book
  pub text : SameText threads a b

-- two results agree: both answers do, or both are refusals for one cause
abbrev pub Agree : Bool → Judged AnswerValue → Judged AnswerValue → Type 0
Agree threads (Accepted a) (Accepted b) = AnswersAgree threads a b
Agree threads (Accepted a) (Refused cause) = ⊥
Agree threads (Refused cause) (Accepted b) = ⊥
Agree threads (Refused cause) (Refused other) = cause ≡ other
