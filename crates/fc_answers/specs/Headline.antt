-- What an answer promises, by the command and the status: that a yes is kept, and what lines say of devices holds.
use Rattle.std.specs.Prelude.{ℕ, ◌≡◌, ◌≤◌, List, Option, Some, None}
use Rattle.command_words.specs.declared.commands.Command.{Command}
use Rattle.command_words.specs.declared.commands.Command.TheVariants as command
use Rattle.command_words.specs.declared.commands.Quiet.{Quiet}
use Rattle.command_words.specs.declared.commands.Quiet.TheVariants.{Check, Changes, Stable, Replay, Format, Trace, Mail}
use Rattle.command_words.specs.declared.commands.Work.{Work}
use Rattle.command_words.specs.declared.commands.Work.TheVariants.{Run, Gen}
use Rattle.command_frame.specs.Answers.{AnswerValue}
use Rattle.command_frame.specs.Owing.{OfThree, OfTwo}
use Rattle.command_frame.specs.Sections.{sections_of}
use Rattle.fc_check.specs.Promises.{CheckPromises}
use Rattle.fc_changes.specs.Promises.{ChangesKept}
use Rattle.fc_stable.specs.Promises.{SolvesYes}
use Rattle.fc_replay.specs.Promises.{ReplaysKept}
use Rattle.fc_trace.specs.Promises.{TraceKept}
use Rattle.fc_mail.specs.Promises.{MailPromises}
use Rattle.fc_run.specs.Promises.{RunKeepsYes}
use Rattle.fc_gen.specs.Promises.{ScenarioAgrees}
use Rattle.fc_answers.specs.Answers.{Answers}

-- the statuses of a quiet command's answers that promise something
abbrev pub IsAnswered : Quiet → ℕ → Type 0
IsAnswered (Check options) status = status ≤ 1
IsAnswered Trace status = status ≤ 1
IsAnswered quiet status = status ≡ 0

-- what a quiet command promises of an answer with such a status to these sections
abbrev pub Promises : Quiet → List (List ℕ) → AnswerValue → Type 0
Promises (Check options) sections answer =
    OfTwo (λ program network. CheckPromises options.facts options.settle program network answer) sections
Promises (Changes options) sections answer =
    OfThree (λ program network changes. ChangesKept options program network changes answer) sections
Promises Stable sections answer = OfTwo (λ program network. SolvesYes program network answer.text) sections
Promises Format sections answer = Unit {0}
Promises (Replay options) sections answer =
    OfThree (λ program network log. ReplaysKept options program network log answer) sections
Promises Trace sections answer =
    OfTwo (λ program network. TraceKept program network answer.status answer.text) sections
Promises (Mail options) sections answer = MailPromises options.number sections answer

-- what work promises of an answer with status 0 to these sections
abbrev pub WorkPromises : Work → List (List ℕ) → AnswerValue → Type 0
WorkPromises (Run options) sections answer =
    OfThree (λ program network script. RunKeepsYes options program network script answer) sections
WorkPromises (Gen options) sections answer = ScenarioAgrees options.number options.devices answer.text

-- what work promises is kept
abbrev pub WorkIsKept : Work → List ℕ → AnswerValue → Type 0
WorkIsKept work input answer = answer.status ≡ 0 → WorkPromises work (sections_of input) answer

-- an answer to what the words ask for keeps its promise, where its status is one that promises something
abbrev pub IsKept : Option Command → List ℕ → AnswerValue → Type 0
IsKept None input answer = Unit {0}
IsKept (Some (command.Quiet quiet)) input answer =
    IsAnswered quiet answer.status → Promises quiet (sections_of input) answer
IsKept (Some (command.Threaded threaded)) input answer = WorkIsKept threaded.work input answer

-- each answer keeps what its command promises
abbrev pub AnswersKeep : Type 0
AnswersKeep =
    (asked : Option Command) (input : List ℕ) (answer : AnswerValue) → Answers asked input answer
    → IsKept asked input answer
