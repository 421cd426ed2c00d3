-- A reply keeps what its answer promises.
use Rattle.std.proofs.Common.{ℕ, ◌≡◌, List, Option, None, refl, subst}
use Rattle.command_words.specs.declared.commands.Command.{Command}
use Rattle.command_frame.specs.declared.refusal.Refusal.TheVariants as refusal
use Rattle.command_frame.specs.Answers.{AnswerValue}
use Rattle.command_frame.specs.Causes.{Plainly, Refused, answer_of}
use Rattle.fc_answers.specs.Answers.{Answers}
use Rattle.fc_answers.specs.Headline.{AnswersKeep}
use Rattle.fc_answers.specs.Laws.{AnswerStatuses}
use Rattle.fc_library.specs.Replies.{IsReply}
use Rattle.fc_library.specs.Words.{Asks}

-- words that ask for nothing are answered by the usage line
pub for_usage : (asked : Option Command) (input : List ℕ) (answer : AnswerValue) → None ≡ asked
    → answer ≡ answer_of (Refused (Plainly refusal.Usage)) → Answers asked input answer
for_usage asked input answer e h =
    subst (λ o. Answers o input answer) e (record { judged = Refused (Plainly refusal.Usage); makes = refl; is = h })

pub is_reply : (asked : Option Command) (words input : List ℕ) (a : AnswerValue) → AnswersKeep → AnswerStatuses
    → Asks words asked → Answers asked input a → IsReply words input a
is_reply asked words input a keep statuses asks answers =
    record {
      asked = asked;
      asks = asks;
      answers = answers;
      kept = keep asked input a answers;
      few = (statuses asked input a answers).few;
    }
