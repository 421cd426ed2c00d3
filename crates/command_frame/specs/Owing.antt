-- What a command owes. A command makes of the sections of an input a result: an answer, or the cause of a refusal.
use Rattle.std.specs.Prelude.{ℕ, Bool, ◌≡◌, ◌≤◌, List, [], ◌∷◌}
use Rattle.command_frame.specs.Agreement.{Agree}
use Rattle.command_frame.specs.Answers.{AnswerValue}
use Rattle.command_frame.specs.Causes.{Judged, Accepted, Refused, answer_to}

-- the status of a refusal is 3 or 4
pub record RefusesBy (status : ℕ) : Type 0 where
  pub many : 3 ≤ status
  pub few : status ≤ 4

-- that of what is done is 0 or 1
abbrev pub HasStatus : Judged AnswerValue → Type 0
HasStatus (Accepted answer) = answer.status ≤ 1
HasStatus (Refused cause) = RefusesBy (answer_to cause).status

-- What a command owes of sections, where they may be asked: something is made of them, which is one thing, or, where
-- threads work, one for logs that agree; and an answer whose status says yes keeps what the command promises.
pub record Owes (threads : Bool) (May : List (List ℕ) → Type 0) (Makes : List (List ℕ) → Judged AnswerValue → Type 0)
    (IsYes : ℕ → Type 0) (Promises : List (List ℕ) → AnswerValue → Type 0) : Type 0 where
  pub some : (sections : List (List ℕ)) → May sections → (j : Judged AnswerValue) × Makes sections j
  pub one : (sections : List (List ℕ)) (j k : Judged AnswerValue) → Makes sections j → Makes sections k
      → Agree threads j k
  pub statuses : (sections : List (List ℕ)) (j : Judged AnswerValue) → Makes sections j → HasStatus j
  pub low : (status : ℕ) → IsYes status → status ≤ 1
  pub keeps : (sections : List (List ℕ)) (answer : AnswerValue) → Makes sections (Accepted answer)
      → IsYes answer.status → Promises sections answer

abbrev pub IsZero : ℕ → Type 0
IsZero status = status ≡ 0

-- what is promised of so many sections
abbrev pub OfTwo : (List ℕ → List ℕ → Type 0) → List (List ℕ) → Type 0
OfTwo P [] = ⊥
OfTwo P (one ∷ []) = ⊥
OfTwo P (one ∷ two ∷ []) = P one two
OfTwo P (one ∷ two ∷ three ∷ more) = ⊥

abbrev pub OfThree : (List ℕ → List ℕ → List ℕ → Type 0) → List (List ℕ) → Type 0
OfThree P [] = ⊥
OfThree P (one ∷ []) = ⊥
OfThree P (one ∷ two ∷ []) = ⊥
OfThree P (one ∷ two ∷ three ∷ []) = P one two three
OfThree P (one ∷ two ∷ three ∷ four ∷ more) = ⊥
