-- What the source has left, and what is answered to it, as the definitions say it.
use Rattle.std.proofs.Common.{ℕ, ◌≡◌, ◌+◌, ◌<◌, ◌≤◌, ◌++◌, true, List, [], length, length-append, refl, ap, sym, subst}
use Rattle.std.proofs.Common.{◌∙◌, arith, Option, Some, None, option_map}
use Rattle.std.specs.Prelude.{IfOk, IfSome, nat_lt}
use Rattle.std.specs.declared.result.Result.{Result}
use Rattle.std.specs.Io.KnownBytes.{Consumes}
use Rattle.std.proofs.lemmas.Bool.Decides.{nat_tests}
use Rattle.std.proofs.lemmas.Result.{IfOk-weaker}
use Rattle.command_words.specs.declared.commands.Command.{Command}
use Rattle.command_words.specs.declared.commands.Command.TheVariants as command
use Rattle.command_words.specs.declared.commands.GenOptions.{GenOptions}
use Rattle.command_words.specs.declared.commands.Limit.{Limit}
use Rattle.command_words.specs.declared.commands.Threaded.{Threaded}
use Rattle.command_words.specs.declared.commands.Work.{Work}
use Rattle.command_words.specs.declared.commands.Work.TheVariants.{Gen}
use Rattle.command_words.specs.Commands.{limit_of}
use Rattle.command_frame.specs.declared.answers.Answer.{Answer}
use Rattle.command_frame.specs.declared.refusal.Refusal.{Refusal}
use Rattle.command_frame.specs.declared.refusal.Refusal.TheVariants as refusal
use Rattle.fc_values.specs.declared.limits.TheConstants.{MOST_BYTES}
use Rattle.command_frame.specs.Causes.{Plainly, Judged, Refused, answer_of}
use Rattle.command_frame.specs.Answers.{AnswerValue}
use Rattle.command_frame.specs.Code.{value_of}
use Rattle.fc_answers.specs.Asked.{limit_refusal}
use Rattle.fc_answers.specs.Answers.{Answered, Answers, AnswersWithin, OfInput, OfLength, Works}
use Rattle.fc_answers.specs.Laws.{AnswerStatuses}
use Rattle.fc_program.specs.declared.judging.Failure.{Failure}
use Rattle.fc_program.specs.Top.{IsAnswer, OfSource}

-- ---- the input
longer : (xs bytes rest : List ℕ) → xs ≡ bytes ++ rest → length bytes ≡ MOST_BYTES + 1 → MOST_BYTES < length xs
longer xs bytes rest e h = omega (arith, h, ap length e, length-append bytes rest)

pub long_input : (left after : Option (List ℕ)) (bytes : List ℕ) → Consumes left after bytes
    → length bytes ≡ MOST_BYTES + 1 → OfSource (λ input. MOST_BYTES < length input) left
long_input None after bytes c h = record { input = bytes; there = tt; holds = omega (arith, h) }
long_input (Some xs) None bytes c h = absurd c
long_input (Some xs) (Some rest) bytes c h =
    record { input = xs; there = refl; holds = longer xs bytes rest c h }

-- the refusal of an input that is longer than the limit
pub of_long : (Judges : List (List ℕ) → Judged AnswerValue → Type 0) (left : Option (List ℕ)) (answer : AnswerValue)
    → OfSource (λ input. MOST_BYTES < length input) left → answer ≡ answer_of (Refused (Plainly refusal.Bytes))
    → OfSource (λ input. Answered (λ j. OfInput Judges input j) answer) left
of_long Judges left answer h e =
    let far = h.holds in
    let long : nat_lt MOST_BYTES (length h.input) ≡ true = grind (arith, nat_tests) in
    record {
      input = h.input;
      there = h.there;
      holds = record {
        judged = Refused (Plainly refusal.Bytes);
        makes = subst (λ b. OfLength b Judges h.input (Refused (Plainly refusal.Bytes))) (sym long) refl;
        is = e;
      };
    }

abbrev left_or_none : Option (List ℕ) → List ℕ
left_or_none None = []
left_or_none (Some xs) = xs

left_there : (left : Option (List ℕ)) → IfSome left (λ l. left_or_none left ≡ l)
left_there None = tt
left_there (Some xs) = refl

unread : (Holds : List ℕ → Type 0) (left : Option (List ℕ)) → Holds (left_or_none left) → OfSource Holds left
unread Holds left h = record { input = left_or_none left; there = left_there left; holds = h }

-- ---- what isn't read
pub for_usage : (asked : Option Command) (left : Option (List ℕ)) (a : AnswerValue) → None ≡ asked
    → a ≡ answer_of (Refused (Plainly refusal.Usage)) → IsAnswer asked left a
for_usage asked left a e is =
    subst (λ o. IsAnswer o left a) e (record {
      input = left_or_none left;
      there = left_there left;
      answers = record { judged = Refused (Plainly refusal.Usage); makes = refl; is = is };
      kept = tt;
    })

-- `gen` takes no input
pub for_gen : (options : GenOptions) (left : Option (List ℕ)) (a : AnswerValue) → Works (Gen options) [] a
    → OfSource (λ input. Works (Gen options) input a) left
for_gen options left a h =
    unread (λ input. Works (Gen options) input a) left (record { judged = h.judged; makes = h.makes; is = h.is })

-- ---- limits
abbrev past : Option (Limit × ℕ) → Option Refusal
past o = option_map (λ (l : Limit × ℕ). limit_refusal l.0 l.1) o

limited : (o : Option (Limit × ℕ)) (t : Threaded) (input : List ℕ) (r : Refusal) → Some r ≡ past o
    → AnswersWithin o t.work input (Refused (Plainly r))
limited None t input r e = absurd cc
limited (Some l) t input r e =
    let is : r ≡ limit_refusal l.0 l.1 = cc in
    ap (λ x. Refused (Plainly x)) is

pub for_limit : (t : Threaded) (left : Option (List ℕ)) (r : Refusal) (a : AnswerValue) → Some r ≡ past (limit_of t)
    → a ≡ answer_of (Refused (Plainly r)) → OfSource (λ input. Answers (Some (command.Threaded t)) input a) left
for_limit t left r a h e =
    unread (λ input. Answers (Some (command.Threaded t)) input a) left
    (record { judged = Refused (Plainly r); makes = limited (limit_of t) t (left_or_none left) r h; is = e })

pub none_past : (o : Option (Limit × ℕ)) → None ≡ past o → o ≡ None
none_past None h = refl
none_past (Some l) h = absurd cc

-- what is worked within the limits is answered
pub for_work : (t : Threaded) (work : Work) (left : Option (List ℕ)) (a : AnswerValue) → None ≡ past (limit_of t)
    → t.work ≡ work → OfSource (λ input. Works work input a) left
    → OfSource (λ input. Answers (Some (command.Threaded t)) input a) left
for_work t work left a none same h = record {
  input = h.input;
  there = h.there;
  holds = record {
    judged = h.holds.judged;
    makes = subst (λ o. AnswersWithin o t.work h.input h.holds.judged) (sym (none_past (limit_of t) none))
        (subst (λ w. AnswersWithin None w h.input h.holds.judged) (sym same) h.holds.makes);
    is = h.holds.is;
  };
}

-- ---- the statuses of answers
module _ (statuses : AnswerStatuses) (asked : Option Command) (left : Option (List ℕ)) (r : Result Answer Failure)
    (h : IfOk r (λ a. OfSource (λ input. Answers asked input (value_of a)) left)) where
  pub answer_usage : (o : Option Command) → o ≡ asked → IfOk r (λ a. a.status ≡ 2 → o ≡ None)
  answer_usage o e = IfOk-weaker r _ _ (λ a i two. e ∙ (statuses asked i.input (value_of a) i.holds).usage two) h

  pub answer_few : IfOk r (λ a. a.status ≤ 4)
  answer_few = IfOk-weaker r _ _ (λ a i. (statuses asked i.input (value_of a) i.holds).few) h
