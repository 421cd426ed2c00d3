-- What `fc` answers to what the words ask for and to an input.
use Rattle.std.specs.Prelude.{ℕ, Bool, true, false, ◌≡◌, nat_lt, List, length, Option, Some, None}
use Rattle.command_words.specs.declared.commands.Command.{Command}
use Rattle.command_words.specs.declared.commands.Command.TheVariants as command
use Rattle.command_words.specs.declared.commands.Limit.{Limit}
use Rattle.command_words.specs.declared.commands.Quiet.{Quiet}
use Rattle.command_words.specs.declared.commands.Quiet.TheVariants.{Check, Changes, Stable, Replay, Format, Trace, Mail}
use Rattle.command_words.specs.declared.commands.Work.{Work}
use Rattle.command_words.specs.declared.commands.Work.TheVariants.{Run, Gen}
use Rattle.command_words.specs.Commands.{limit_of}
use Rattle.fc_values.specs.declared.limits.TheConstants.{MOST_BYTES}
use Rattle.command_frame.specs.declared.refusal.Refusal.TheVariants.{Usage, Bytes}
use Rattle.command_frame.specs.Answers.{AnswerValue}
use Rattle.command_frame.specs.Causes.{Plainly, Judged, Refused, answer_of}
use Rattle.command_frame.specs.Sections.{sections_of, WithOne, WithTwo, WithThree}
use Rattle.fc_check.specs.Commands.{Checks}
use Rattle.fc_changes.specs.Commands.{ChecksChanges}
use Rattle.fc_stable.specs.Stabilised.{Stabilised}
use Rattle.fc_replay.specs.Replays.{Replays}
use Rattle.fc_format.specs.Formats.{Formats}
use Rattle.fc_trace.specs.Traces.{Traces}
use Rattle.fc_mail.specs.Commands.{AnswersMail}
use Rattle.fc_run.specs.Runs.{Runs}
use Rattle.fc_gen.specs.Gens.{Generates}
use Rattle.fc_answers.specs.Asked.{limit_refusal}

-- a quiet command over the sections of an input within the limit
abbrev pub AnswersSections : Quiet → List (List ℕ) → Judged AnswerValue → Type 0
AnswersSections (Check options) sections j = WithTwo (Checks options) sections j
AnswersSections (Changes options) sections j = WithThree (ChecksChanges options) sections j
AnswersSections Stable sections j = WithTwo Stabilised sections j
AnswersSections (Replay options) sections j = WithThree (Replays options) sections j
AnswersSections Format sections j = WithOne Formats sections j
AnswersSections Trace sections j = WithTwo Traces sections j
AnswersSections (Mail options) sections j = AnswersMail options.number sections j

-- what is judged of an input that is longer than the limit, and of the sections of one that isn't
abbrev pub OfLength : Bool → (List (List ℕ) → Judged AnswerValue → Type 0) → List ℕ → Judged AnswerValue → Type 0
OfLength true Judges input j = j ≡ Refused (Plainly Bytes)
OfLength false Judges input j = Judges (sections_of input) j

abbrev pub OfInput : (List (List ℕ) → Judged AnswerValue → Type 0) → List ℕ → Judged AnswerValue → Type 0
OfInput Judges input j = OfLength (nat_lt MOST_BYTES (length input)) Judges input j

-- work on an input, within the limits of its numbers. `gen` takes none
abbrev pub AnswersWork : Work → List ℕ → Judged AnswerValue → Type 0
AnswersWork (Run options) input j = OfInput (λ sections k. WithThree (Runs options) sections k) input j
AnswersWork (Gen options) input j = Generates options j

-- work with a number that is past its limit, which is judged before all reading, and work without
abbrev pub AnswersWithin : Option (Limit × ℕ) → Work → List ℕ → Judged AnswerValue → Type 0
AnswersWithin (Some limit) work input j = j ≡ Refused (Plainly (limit_refusal limit.0 limit.1))
AnswersWithin None work input j = AnswersWork work input j

-- what the words ask for
abbrev pub AnswersAsked : Option Command → List ℕ → Judged AnswerValue → Type 0
AnswersAsked None input j = j ≡ Refused (Plainly Usage)
AnswersAsked (Some (command.Quiet quiet)) input j = OfInput (λ sections k. AnswersSections quiet sections k) input j
AnswersAsked (Some (command.Threaded threaded)) input j =
    AnswersWithin (limit_of threaded) threaded.work input j

-- an answer of what is judged so
pub record Answered (Judges : Judged AnswerValue → Type 0) (answer : AnswerValue) : Type 0 where
  pub judged : Judged AnswerValue
  pub makes : Judges judged
  pub is : answer ≡ answer_of judged

-- the answer to what the words ask for and to an input
abbrev pub Answers : Option Command → List ℕ → AnswerValue → Type 0
Answers asked input answer = Answered (λ j. AnswersAsked asked input j) answer

-- the answer of work within the limits of its numbers
abbrev pub Works : Work → List ℕ → AnswerValue → Type 0
Works work input answer = Answered (λ j. AnswersWork work input j) answer
