-- What `fc` promises of its source and its sink, its status, its book and its parts.
use Rattle.std.specs.Prelude.{ℕ, ◌≡◌, ◌≢◌, ◌<◌, ◌≤◌, ◌⊎◌, true}
use Rattle.std.specs.Prelude.{List, [], length, take, IfSome, IsNone}
use Rattle.std.specs.Prelude.{Option, None, option_map}
use Rattle.std.specs.Io.KnownBytes.{Appends, IsAtEnd, Keeps}
use Rattle.command_words.specs.declared.commands.Command.{Command}
use Rattle.fc_io.specs.Causes.{Rose}
use Rattle.fc_program.specs.declared.ending.CallEnd.{CallEnd}
use Rattle.fc_answers.specs.Asked.{reads_source}
use Rattle.fc_answers.specs.Answers.{Answers}
use Rattle.fc_answers.specs.Headline.{IsKept}
use Rattle.command_frame.specs.Ledgers.{ledger_of}
use Rattle.command_frame.specs.Answers.{AnswerValue}

-- an answer to an input, which is what the source has left where it tells that; what it promises is kept
pub record IsAnswer (asked : Option Command) (left : Option (List ℕ)) (answer : AnswerValue) : Type 0 where
  pub input : List ℕ
  pub there : IfSome left (λ bytes. input ≡ bytes)
  pub answers : Answers asked input answer
  pub kept : IsKept asked input answer

-- something holds of an input, which is what the source has left where it tells that
pub record OfSource (Holds : List ℕ → Type 0) (left : Option (List ℕ)) : Type 0 where
  pub input : List ℕ
  pub there : IfSome left (λ bytes. input ≡ bytes)
  pub holds : Holds input

-- ---- how a call ends

-- a source at a moment: what it has left, where it tells that, and the count of its faults
pub record SourceAt : Type 0 where
  pub left : Option (List ℕ)
  pub faults : ℕ

-- a sink at a moment: what it has taken and what room it has left, where it tells that, and the count of its faults
pub record SinkAt : Type 0 where
  pub taken : Option (List ℕ)
  pub faults : ℕ
  pub room : Option ℕ

abbrev pub source_at : Option (List ℕ) → ℕ → SourceAt
source_at left faults = record { left = left; faults = faults }

abbrev pub sink_at : Option (List ℕ) → ℕ → Option ℕ → SinkAt
sink_at taken faults room = record { taken = taken; faults = faults; room = room }

-- the book and the parts of an outcome are those of an answer
pub record Tells (answer : AnswerValue) (o : CallEnd) : Type 0 where
  pub book : option_map ledger_of o.book ≡ answer.book
  pub parts : o.parts.items ≡ answer.parts

-- an outcome without a book
pub record TellsNothing (o : CallEnd) : Type 0 where
  pub book : IsNone o.book
  pub parts : o.parts.items ≡ []

-- There is an answer with the outcome's status, book and parts, and the sink took its text and nothing else.
pub record IsExact (asked : Option Command) (left old new : Option (List ℕ)) (o : CallEnd) : Type 0 where
  pub answer : AnswerValue
  pub answers : IsAnswer asked left answer
  pub status : o.status ≡ answer.status
  pub text : Appends old new answer.text
  pub tells : Tells answer o

-- There is an answer with the outcome's book and parts, and the sink took only the first part of its text.
pub record IsCut (asked : Option Command) (left old new : Option (List ℕ)) (o : CallEnd) : Type 0 where
  pub answer : AnswerValue
  pub answers : IsAnswer asked left answer
  pub size : ℕ
  pub short : size < length answer.text
  pub text : Appends old new (take size answer.text)
  pub tells : Tells answer o

-- the source failed, and the sink took nothing
pub record IsUnread (src src' : SourceAt) (out out' : SinkAt) : Type 0 where
  pub cause : Rose src.faults src'.faults
  pub keeps : Keeps out.taken out'.taken

-- how a call for what the words ask ends: the source and the sink before it and after it, and its outcome
pub record CallEnds (asked : Option Command) (src src' : SourceAt) (out out' : SinkAt) (o : CallEnd) : Type 0 where
  -- A status from 0 to 4: an answer to the words and to what the source had left was written, and nothing else.
  pub exact : o.status ≤ 4 → IsExact asked src.left out.taken out'.taken o
  -- What reads the source reads it to its end.
  pub end : reads_source asked ≡ true → o.status ≤ 1 → IsAtEnd src'.left
  pub refused : reads_source asked ≡ true → o.status ≡ 3 → IsAtEnd src'.left
  -- Each other answer has its cause: the words for 2, the source for 5, the sink for 6.
  pub usage : o.status ≡ 2 → asked ≡ None
  pub outside : asked ≡ None → (o.status ≡ 2) ⊎ (6 ≤ o.status)
  pub read : o.status ≡ 5 → IsUnread src src' out out'
  pub unread : o.status ≢ 5 → src'.faults ≡ src.faults
  pub write : o.status ≡ 6 → Rose out.faults out'.faults
  pub unwritten : o.status ≢ 6 → out'.faults ≡ out.faults
  pub cut : o.status ≡ 6 → IsCut asked src.left out.taken out'.taken o
  pub memory : o.status ≡ 7 → Keeps out.taken out'.taken
  pub range : o.status ≤ 7
  pub room : out'.room ≡ out.room
  -- Nothing is told where nothing was made.
  pub unread_book : o.status ≡ 5 → TellsNothing o
  pub memory_book : o.status ≡ 7 → TellsNothing o
  -- Where neither count of faults rose, the outcome is the prescribed one, unless memory was wanting.
  pub complete : (Rose src.faults src'.faults → ⊥) → (Rose out.faults out'.faults → ⊥) → o.status ≢ 7
      → IsExact asked src.left out.taken out'.taken o
