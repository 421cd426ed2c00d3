-- What is judged of an input of any length, and the answer that it has.
use Rattle.std.proofs.Common.{ℕ, ◌≡◌, ◌<◌, ◌≤◌, Bool, true, false, List, length, refl, sym, subst, arith}
use Rattle.std.proofs.Common.{Option, Some, None}
use Rattle.std.specs.Prelude.{IfErr, IfOk, nat_lt}
use Rattle.std.specs.declared.result.Result.{Result}
use Rattle.std.specs.declared.result.Result.TheVariants.{Ok, Err}
use Rattle.std.proofs.lemmas.Bool.Decides.{nat_tests}
use Rattle.fc_values.specs.declared.limits.TheConstants.{MOST_BYTES}
use Rattle.fc_values.specs.declared.memory.Memory.{Memory}
use Rattle.command_frame.specs.declared.answers.Answer.{Answer}
use Rattle.command_frame.specs.declared.refusal.Refusal.TheVariants.{Bytes}
use Rattle.command_frame.specs.declared.stop.Stop.{Stop}
use Rattle.command_frame.specs.declared.stop.Stop.TheVariants as stop
use Rattle.command_frame.specs.Answers.{AnswerValue}
use Rattle.command_frame.specs.Causes.{Cause, Plainly, Judged, Accepted, Refused, answer_of}
use Rattle.command_frame.specs.Code.{value_of}
use Rattle.command_frame.specs.Sections.{sections_of}
use Rattle.command_frame.specs.Stops.{IsAnswerTo, StopsFor, WhereCause, cause_of, scene_cause}
use Rattle.fc_answers.specs.Answers.{Answered, OfInput, OfLength}

-- what a command makes of sections
pub record Makes (Judges : List (List ℕ) → Judged AnswerValue → Type 0) (sections : List (List ℕ))
    (made : Result Answer Stop) : Type 0 where
  pub makes : IfOk made (λ a. Judges sections (Accepted (value_of a)))
  pub refused : IfErr made (StopsFor (λ cause. Judges sections (Refused cause)))

module _ (Judges : List (List ℕ) → Judged AnswerValue → Type 0) (input : List ℕ) where
  of_length : (b : Bool) (j : Judged AnswerValue) (answer : AnswerValue) → nat_lt MOST_BYTES (length input) ≡ b
      → OfLength b Judges input j → answer ≡ answer_of j → Answered (λ k. OfInput Judges input k) answer
  of_length b j answer e h is = record { judged = j; makes = subst (λ c. OfLength c Judges input j) (sym e) h; is = is }

  -- an input that is longer than the limit
  pub long_answered : (answer : AnswerValue) → MOST_BYTES < length input → answer ≡ answer_of (Refused (Plainly Bytes))
      → Answered (λ k. OfInput Judges input k) answer
  long_answered answer far is = of_length true (Refused (Plainly Bytes)) answer (grind (arith, nat_tests)) refl is

module _ (Judges : List (List ℕ) → Judged AnswerValue → Type 0) (input : List ℕ)
    (near : length input ≤ MOST_BYTES) where
  short_answered : (j : Judged AnswerValue) (answer : AnswerValue) → Judges (sections_of input) j → answer ≡ answer_of j
      → Answered (λ k. OfInput Judges input k) answer
  short_answered j answer h is = of_length Judges input false j answer (grind (arith, nat_tests)) h is

  where_answered : (o : Option Cause) (answer : AnswerValue)
      → WhereCause (λ cause. Judges (sections_of input) (Refused cause)) o → IsAnswerTo o answer
      → Answered (λ k. OfInput Judges input k) answer
  where_answered None answer h is = absurd is
  where_answered (Some cause) answer h is = short_answered (Refused cause) answer h is

  -- what a command made of the sections of one that isn't, or the answer to the cause for which it stopped
  pub made_answered : (made : Result Answer Stop) (given : Result Answer Memory) → Makes Judges (sections_of input) made
      → IfOk made (λ b. IfOk given (λ a. value_of a ≡ value_of b))
      → IfErr made (λ s. IfOk given (λ a. IsAnswerTo (cause_of s) (value_of a)))
      → IfOk given (λ a. Answered (λ k. OfInput Judges input k) (value_of a))
  made_answered made (Err e) h same stopped = tt
  made_answered (Ok b) (Ok a) h same stopped = short_answered (Accepted (value_of b)) (value_of a) h.makes same
  made_answered (Err stop.Memory) (Ok a) h same stopped = absurd stopped
  made_answered (Err (stop.Refused r)) (Ok a) h same stopped =
      short_answered (Refused (Plainly r)) (value_of a) h.refused stopped
  made_answered (Err (stop.Scene f)) (Ok a) h same stopped =
      where_answered (scene_cause f) (value_of a) h.refused stopped
