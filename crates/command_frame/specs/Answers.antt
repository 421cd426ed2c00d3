-- What a command answers: a status, a text, and for some commands a book and the parts of its log.
use Rattle.std.specs.Prelude.{ℕ, List, [], Option, Some, None}
use Rattle.firing_core.specs.declared.entries.Part.{Part}
use Rattle.command_frame.specs.Ledgers.{Ledger}

-- an answer: its status, its text, and for some commands a book and the parts of the book's log
pub record AnswerValue : Type 0 where
  pub status : ℕ
  pub text : List ℕ
  pub book : Option Ledger
  pub parts : List Part

-- a status and a text alone
abbrev pub plain : ℕ → List ℕ → AnswerValue
plain status text = record { status = status; text = text; book = None; parts = [] }

-- what was done: a text, the book that it shows, and the parts of the book's log
abbrev pub showing : List ℕ → Ledger → List Part → AnswerValue
showing text book parts = record { status = 0; text = text; book = Some book; parts = parts }
