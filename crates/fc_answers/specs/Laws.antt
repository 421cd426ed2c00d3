-- Each input has an answer, answers to one input write the same, and which statuses answers have.
use Rattle.std.specs.Prelude.{ℕ, Bool, true, false, ◌≡◌, ◌≤◌, List, Option, Some, None}
use Rattle.command_words.specs.declared.commands.Command.{Command}
use Rattle.command_words.specs.declared.commands.Command.TheVariants as command
use Rattle.command_words.specs.declared.commands.Quiet.{Quiet}
use Rattle.fc_values.specs.declared.limits.TheConstants.{MOST_BYTES}
use Rattle.command_frame.specs.Agreement.{AnswersAgree}
use Rattle.command_frame.specs.Answers.{AnswerValue}
use Rattle.command_frame.specs.Owing.{Owes}
use Rattle.command_frame.specs.Sections.{AreWithin}
use Rattle.fc_run.specs.Promises.{RunOwes}
use Rattle.fc_gen.specs.Promises.{GenOwes}
use Rattle.fc_answers.specs.Asked.{MayAsk}
use Rattle.fc_answers.specs.Answers.{Answers, AnswersSections}
use Rattle.fc_answers.specs.Headline.{IsAnswered, Promises}

-- what each command owes
pub record CommandsOwe : Type 0 where
  pub quiet : (quiet : Quiet) → Owes false (AreWithin MOST_BYTES) (λ sections j. AnswersSections quiet sections j)
      (IsAnswered quiet) (λ sections answer. Promises quiet sections answer)
  pub run : RunOwes
  pub gen : GenOwes

-- the commands whose log is made by threads
abbrev pub threads_of : Option Command → Bool
threads_of None = false
threads_of (Some (command.Quiet quiet)) = false
threads_of (Some (command.Threaded threaded)) = true

abbrev pub OneAnswer : Type 0
OneAnswer =
    (asked : Option Command) (input : List ℕ) (a b : AnswerValue) → Answers asked input a → Answers asked input b
    → AnswersAgree (threads_of asked) a b

-- each input has an answer, whatever the words ask for
abbrev pub SomeAnswer : Type 0
SomeAnswer =
    (asked : Option Command) (input : List ℕ) → MayAsk asked
    → (answer : AnswerValue) × Answers asked input answer

-- the status of an answer: 2, that of the usage line, only where the words ask for no command, and at most 4
pub record AnswerStatus (asked : Option Command) (answer : AnswerValue) : Type 0 where
  pub usage : answer.status ≡ 2 → asked ≡ None
  pub few : answer.status ≤ 4

abbrev pub AnswerStatuses : Type 0
AnswerStatuses =
    (asked : Option Command) (input : List ℕ) (answer : AnswerValue) → Answers asked input answer
    → AnswerStatus asked answer
