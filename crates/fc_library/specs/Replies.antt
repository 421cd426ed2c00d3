-- What a call writes.
use Rattle.std.specs.Prelude.{ℕ, ◌≡◌, ◌≤◌, nat_le, if◌then◌else◌, List, ◌++◌, length, drop, Option, Some, None}
use Rattle.command_words.specs.declared.commands.Command.{Command}
use Rattle.command_words.specs.declared.commands.Command.TheVariants as command
use Rattle.command_frame.specs.Answers.{AnswerValue}
use Rattle.fc_answers.specs.Answers.{Answers}
use Rattle.fc_answers.specs.Headline.{IsKept}
use Rattle.fc_library.specs.Words.{Asks}

-- an answer to what the words ask for and to the input. What a yes in it promises is kept
pub record IsReply (words input : List ℕ) (answer : AnswerValue) : Type 0 where
  pub asked : Option Command
  pub asks : Asks words asked
  pub answers : Answers asked input answer
  pub kept : IsKept asked input answer
  pub few : answer.status ≤ 4

-- work by threads is asked for
abbrev pub IsThreaded : Option Command → Type 0
IsThreaded None = ⊥
IsThreaded (Some (command.Quiet quiet)) = ⊥
IsThreaded (Some (command.Threaded threaded)) = Unit {0}

-- the words ask for work by threads
pub record AskForThreads (words : List ℕ) : Type 0 where
  pub asked : Option Command
  pub asks : Asks words asked
  pub threaded : IsThreaded asked

-- a text at the front of a room, where it fits
abbrev pub written : List ℕ → List ℕ → List ℕ
written text room = if nat_le (length text) (length room) then text ++ drop (length text) room else room

-- a call with an answer: its status, the length of its text, and the text in the room where it fits
pub record Replies (words input room : List ℕ) (status needed : ℕ) (after : List ℕ) : Type 0 where
  pub answer : AnswerValue
  pub is : IsReply words input answer
  pub status_is : status ≡ answer.status
  pub needed_is : needed ≡ length answer.text
  pub after_is : after ≡ written answer.text room
