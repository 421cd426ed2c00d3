-- Crates above cite this module: results that agree.
use Rattle.std.proofs.Common.{ℕ, ◌≡◌, Bool, true, false, List, refl, sym, subst, Option, Some, None}
use Rattle.topology.specs.declared.types.NetFault.{NetFault}
use Rattle.net_json.specs.Judging.{NotJson, Misshaped, BadNetwork, BadKept, TooManyDevices}
use Rattle.command_frame.specs.declared.refusal.Refusal.{Refusal}
use Rattle.command_frame.specs.Agreement.{Agree, AnswersAgree, OfBooks, SameBook, SameText}
use Rattle.command_frame.specs.Answers.{AnswerValue, plain}
use Rattle.command_frame.specs.Causes.{Cause, Plainly, InScene, Judged, Accepted, Refused, answer_of, answer_to, or_network}
use Rattle.command_frame.specs.Ledgers.{Ledger}
use Rattle.command_frame.specs.Refusals.{network_limit}

pub by_threads : (b : Bool) (x y : AnswerValue) → x.text ≡ y.text → SameText b x y
by_threads false x y e = e
by_threads true x y e = λ logs. e

-- two results that are one
both_are : (b : Bool) (i j k : Judged AnswerValue) → Agree b i i → j ≡ i → k ≡ i → Agree b j k
both_are b i j k same e f = subst (λ x. Agree b x k) (sym e) (subst (Agree b i) (sym f) same)

pub both_refused : (b : Bool) (j k : Judged AnswerValue) (cause : Cause) → j ≡ Refused cause → k ≡ Refused cause
    → Agree b j k
both_refused b j k cause e f = both_are b (Refused cause) j k refl e f

pub both_plain : (b : Bool) (j k : Judged AnswerValue) (status : ℕ) (text : List ℕ)
    → j ≡ Accepted (plain status text) → k ≡ Accepted (plain status text) → Agree b j k
both_plain b j k status text e f =
    both_are b (Accepted (plain status text)) j k
    (record { status = refl; books = tt; text = by_threads b (plain status text) (plain status text) refl }) e f

-- ---- the answers of two results that agree
no_network_book : (o : Option Refusal) (path : List ℕ) (fault : NetFault) → (or_network o path fault).book ≡ None
no_network_book None path fault = refl
no_network_book (Some limit) path fault = refl

no_book : (cause : Cause) → (answer_to cause).book ≡ None
no_book (Plainly refusal) = refl
no_book (InScene NotJson) = refl
no_book (InScene (Misshaped path)) = refl
no_book (InScene (BadNetwork path fault)) = no_network_book (network_limit fault) path fault
no_book (InScene (BadKept path place)) = refl
no_book (InScene (TooManyDevices count)) = refl

refusal_agrees : (b : Bool) (cause : Cause) → AnswersAgree b (answer_to cause) (answer_to cause)
refusal_agrees b cause = record {
  status = refl;
  books = subst (λ (o : Option Ledger). OfBooks (SameBook b) o o) (sym (no_book cause)) tt;
  text = by_threads b (answer_to cause) (answer_to cause) refl;
}

pub answers_agree : (b : Bool) (j k : Judged AnswerValue) → Agree b j k → AnswersAgree b (answer_of j) (answer_of k)
answers_agree b (Accepted x) (Accepted y) h = h
answers_agree b (Accepted x) (Refused cause) h = absurd h
answers_agree b (Refused cause) (Accepted y) h = absurd h
answers_agree b (Refused cause) (Refused other) h =
    subst (λ c. AnswersAgree b (answer_to cause) (answer_to c)) h (refusal_agrees b cause)
