-- Crates above cite this module: what a command owes of scenes, it owes of texts, and so of the sections of an input.
use Rattle.std.proofs.Common.{ℕ, ◌≡◌, ◌≤◌, Bool, List, [], ◌∷◌, length, refl, ◌∙◌, sym, subst, arith}
use Rattle.fc_nodes.specs.Program.{IsProgram, Program, Unfolding, unfolding_of}
use Rattle.firing_core.specs.Cores.{IsGood}
use Rattle.net_json.specs.Scenes.{SceneValue}
use Rattle.fc_values.specs.declared.limits.TheConstants.{MOST_BYTES}
use Rattle.command_frame.specs.Agreement.{Agree}
use Rattle.command_frame.specs.Answers.{AnswerValue, plain}
use Rattle.command_frame.specs.Causes.{Cause, Judged, Accepted, Refused, AndThen}
use Rattle.command_frame.specs.Inputs.{InputOf, OfScene, ReadsInput}
use Rattle.command_frame.specs.Owing.{HasStatus, IsZero, OfThree, OfTwo, Owes}
use Rattle.command_frame.specs.Sections.{AreWithin, WithThree, WithTwo, other_section_count}
use Rattle.command_frame.specs.Starts.{InputsAreRead, start_of}
use Rattle.command_frame.proofs.Agreeing.{both_refused}
use Rattle.command_frame.proofs.RefusalStatuses.{IfRefused, by_three, input_refused}

pub zero_low : (n : ℕ) → IsZero n → n ≤ 1
zero_low n e = omega (arith, e)

pub plain_status : (j : Judged AnswerValue) (status : ℕ) (text : List ℕ) → status ≤ 1 → j ≡ Accepted (plain status text)
    → HasStatus j
plain_status j status text low e = subst HasStatus (sym e) low

pub refused_status : (j : Judged AnswerValue) (cause : Cause) → HasStatus (Refused cause) → j ≡ Refused cause
    → HasStatus j
refused_status j cause h e = subst HasStatus (sym e) h

-- ---- the texts of a program and a scene
pub record OwesTexts (threads : Bool) (Makes : List ℕ → List ℕ → Judged AnswerValue → Type 0) (IsYes : ℕ → Type 0)
    (P : List ℕ → List ℕ → AnswerValue → Type 0) : Type 0 where
  pub some : (program network : List ℕ) → length program ≤ MOST_BYTES
      → (j : Judged AnswerValue) × Makes program network j
  pub one : (program network : List ℕ) (j k : Judged AnswerValue) → Makes program network j → Makes program network k
      → Agree threads j k
  pub statuses : (program network : List ℕ) (j : Judged AnswerValue) → Makes program network j → HasStatus j
  pub low : (status : ℕ) → IsYes status → status ≤ 1
  pub keeps : (program network : List ℕ) (a : AnswerValue) → Makes program network (Accepted a) → IsYes a.status
      → P program network a

-- what is owed of each program and scene that starts a good core of it
pub record OwesScenes (threads : Bool) (Makes : Unfolding → SceneValue → Judged AnswerValue → Type 0)
    (IsYes : ℕ → Type 0) (P : List ℕ → List ℕ → AnswerValue → Type 0) : Type 0 where
  pub some : (Q : Program) (s : SceneValue) → IsProgram Q → IsGood (unfolding_of Q) (start_of s)
      → (j : Judged AnswerValue) × Makes (unfolding_of Q) s j
  pub one : (Q : Program) (s : SceneValue) → IsProgram Q → IsGood (unfolding_of Q) (start_of s)
      → (j k : Judged AnswerValue) → Makes (unfolding_of Q) s j → Makes (unfolding_of Q) s k → Agree threads j k
  pub statuses : (U : Unfolding) (s : SceneValue) (j : Judged AnswerValue) → Makes U s j → HasStatus j
  pub low : (status : ℕ) → IsYes status → status ≤ 1
  pub keeps : (program network : List ℕ) (i : InputOf) → ReadsInput program network (Accepted i) → (a : AnswerValue)
      → Makes i.0 i.1 (Accepted a) → IsYes a.status → P program network a

module _ (laws : InputsAreRead) (threads : Bool) (Makes : Unfolding → SceneValue → Judged AnswerValue → Type 0)
    (IsYes : ℕ → Type 0) (P : List ℕ → List ℕ → AnswerValue → Type 0)
    (owes : OwesScenes threads Makes IsYes P) where
  abbrev Ends : Judged InputOf → Judged AnswerValue → Type 0
  Ends i j = AndThen i (λ i k. Makes i.0 i.1 k) j

  some_texts : (program network : List ℕ) → length program ≤ MOST_BYTES
      → (j : Judged AnswerValue) × OfScene Makes program network j
  some_texts program network short =
      let read = laws.one program network short in
      by_input read.0 read.1
    where
      Some : SceneValue → Unfolding → Type 0
      Some s U = IsGood U (start_of s) → (j : Judged AnswerValue) × Makes U s j

      by_input : (i : Judged InputOf) → ReadsInput program network i
          → (j : Judged AnswerValue) × OfScene Makes program network j
      by_input (Refused cause) r = (Refused cause, record { judged = Refused cause; reads = r; ends = refl })
      by_input (Accepted i) r =
          let q = laws.unfolded program network i r in
          let made = subst (Some i.1) q.2 (owes.some q.0 i.1 q.1) (laws.start program network i r).good in
          (made.0, record { judged = Accepted i; reads = r; ends = made.1 })

  one_texts : (program network : List ℕ) (j k : Judged AnswerValue) → OfScene Makes program network j
      → OfScene Makes program network k → Agree threads j k
  one_texts program network j k h g =
      let read = laws.one program network h.reads.short in
      let same : h.judged ≡ g.judged = read.2 h.judged h.reads ∙ sym (read.2 g.judged g.reads) in
      by_input g.judged g.reads (subst (λ i. Ends i j) same h.ends) g.ends
    where
      One : SceneValue → Unfolding → Type 0
      One s U = IsGood U (start_of s) → Makes U s j → Makes U s k → Agree threads j k

      by_input : (i : Judged InputOf) → ReadsInput program network i → Ends i j → Ends i k → Agree threads j k
      by_input (Refused cause) r e f = both_refused threads j k cause e f
      by_input (Accepted i) r e f =
          let q = laws.unfolded program network i r in
          subst (One i.1) q.2 (λ good. owes.one q.0 i.1 q.1 good j k) (laws.start program network i r).good e f

  statuses_of_texts : (program network : List ℕ) (j : Judged AnswerValue) → OfScene Makes program network j
      → HasStatus j
  statuses_of_texts program network j h =
      by_input h.judged (input_refused program network h.judged h.reads) h.ends
    where
      by_input : (i : Judged InputOf) → IfRefused i → Ends i j → HasStatus j
      by_input (Accepted i) r e = owes.statuses i.0 i.1 j e
      by_input (Refused cause) r e = refused_status j cause r e

  texts_keep : (program network : List ℕ) (a : AnswerValue) → OfScene Makes program network (Accepted a)
      → IsYes a.status → P program network a
  texts_keep program network a h says = by_input h.judged h.reads h.ends
    where
      by_input : (i : Judged InputOf) → ReadsInput program network i → Ends i (Accepted a) → P program network a
      by_input (Refused cause) r e = absurd cc
      by_input (Accepted i) r e = owes.keeps program network i r a e says

  pub texts_owe : OwesTexts threads (OfScene Makes) IsYes P
  texts_owe = record {
    some = some_texts;
    one = one_texts;
    statuses = statuses_of_texts;
    low = owes.low;
    keeps = texts_keep;
  }

-- ---- sections
abbrev Other : List (List ℕ) → Judged AnswerValue → Type 0
Other ss j = j ≡ Refused (other_section_count ss)

other_status : (ss : List (List ℕ)) (j : Judged AnswerValue) → Other ss j → HasStatus j
other_status ss j e = refused_status j (other_section_count ss) by_three e

-- two of them
module _ (threads : Bool) (Makes : List ℕ → List ℕ → Judged AnswerValue → Type 0) (IsYes : ℕ → Type 0)
    (P : List ℕ → List ℕ → AnswerValue → Type 0) (owes : OwesTexts threads Makes IsYes P) where
  some_two : (ss : List (List ℕ)) → AreWithin MOST_BYTES ss → (j : Judged AnswerValue) × WithTwo Makes ss j
  some_two [] w = (Refused (other_section_count []), refl)
  some_two (a ∷ []) w = (Refused (other_section_count (a ∷ [])), refl)
  some_two (a ∷ b ∷ []) w = owes.some a b w.0
  some_two (a ∷ b ∷ c ∷ ss) w = (Refused (other_section_count (a ∷ b ∷ c ∷ ss)), refl)

  one_two : (ss : List (List ℕ)) (j k : Judged AnswerValue) → WithTwo Makes ss j → WithTwo Makes ss k
      → Agree threads j k
  one_two [] j k h g = both_refused threads j k _ h g
  one_two (a ∷ []) j k h g = both_refused threads j k _ h g
  one_two (a ∷ b ∷ []) j k h g = owes.one a b j k h g
  one_two (a ∷ b ∷ c ∷ ss) j k h g = both_refused threads j k _ h g

  statuses_of_two : (ss : List (List ℕ)) (j : Judged AnswerValue) → WithTwo Makes ss j → HasStatus j
  statuses_of_two [] j h = other_status [] j h
  statuses_of_two (a ∷ []) j h = other_status (a ∷ []) j h
  statuses_of_two (a ∷ b ∷ []) j h = owes.statuses a b j h
  statuses_of_two (a ∷ b ∷ c ∷ ss) j h = other_status (a ∷ b ∷ c ∷ ss) j h

  two_keep : (ss : List (List ℕ)) (a : AnswerValue) → WithTwo Makes ss (Accepted a) → IsYes a.status
      → OfTwo (λ one two. P one two a) ss
  two_keep [] a h says = absurd (cc h)
  two_keep (p ∷ []) a h says = absurd (cc h)
  two_keep (p ∷ n ∷ []) a h says = owes.keeps p n a h says
  two_keep (p ∷ n ∷ c ∷ ss) a h says = absurd (cc h)

  pub two_owe : Owes threads (AreWithin MOST_BYTES) (λ ss j. WithTwo Makes ss j) IsYes
      (λ ss a. OfTwo (λ one two. P one two a) ss)
  two_owe = record {
    some = some_two;
    one = one_two;
    statuses = statuses_of_two;
    low = owes.low;
    keeps = two_keep;
  }

-- three of them
module _ (threads : Bool) (Makes : List ℕ → List ℕ → List ℕ → Judged AnswerValue → Type 0) (IsYes : ℕ → Type 0)
    (P : List ℕ → List ℕ → List ℕ → AnswerValue → Type 0)
    (owes : (third : List ℕ) → OwesTexts threads (λ one two. Makes one two third) IsYes (λ one two. P one two third))
  where
    some_three : (ss : List (List ℕ)) → AreWithin MOST_BYTES ss → (j : Judged AnswerValue) × WithThree Makes ss j
    some_three [] w = (Refused (other_section_count []), refl)
    some_three (a ∷ []) w = (Refused (other_section_count (a ∷ [])), refl)
    some_three (a ∷ b ∷ []) w = (Refused (other_section_count (a ∷ b ∷ [])), refl)
    some_three (a ∷ b ∷ c ∷ []) w = (owes c).some a b w.0
    some_three (a ∷ b ∷ c ∷ d ∷ ss) w = (Refused (other_section_count (a ∷ b ∷ c ∷ d ∷ ss)), refl)

    one_three : (ss : List (List ℕ)) (j k : Judged AnswerValue) → WithThree Makes ss j → WithThree Makes ss k
        → Agree threads j k
    one_three [] j k h g = both_refused threads j k _ h g
    one_three (a ∷ []) j k h g = both_refused threads j k _ h g
    one_three (a ∷ b ∷ []) j k h g = both_refused threads j k _ h g
    one_three (a ∷ b ∷ c ∷ []) j k h g = (owes c).one a b j k h g
    one_three (a ∷ b ∷ c ∷ d ∷ ss) j k h g = both_refused threads j k _ h g

    statuses_of_three : (ss : List (List ℕ)) (j : Judged AnswerValue) → WithThree Makes ss j → HasStatus j
    statuses_of_three [] j h = other_status [] j h
    statuses_of_three (a ∷ []) j h = other_status (a ∷ []) j h
    statuses_of_three (a ∷ b ∷ []) j h = other_status (a ∷ b ∷ []) j h
    statuses_of_three (a ∷ b ∷ c ∷ []) j h = (owes c).statuses a b j h
    statuses_of_three (a ∷ b ∷ c ∷ d ∷ ss) j h = other_status (a ∷ b ∷ c ∷ d ∷ ss) j h

    three_keep : (ss : List (List ℕ)) (a : AnswerValue) → WithThree Makes ss (Accepted a) → IsYes a.status
        → OfThree (λ one two three. P one two three a) ss
    three_keep [] a h says = absurd (cc h)
    three_keep (p ∷ []) a h says = absurd (cc h)
    three_keep (p ∷ n ∷ []) a h says = absurd (cc h)
    three_keep (p ∷ n ∷ c ∷ []) a h says = (owes c).keeps p n a h says
    three_keep (p ∷ n ∷ c ∷ d ∷ ss) a h says = absurd (cc h)

    pub three_owe : Owes threads (AreWithin MOST_BYTES) (λ ss j. WithThree Makes ss j) IsYes
        (λ ss a. OfThree (λ one two three. P one two three a) ss)
    three_owe = record {
      some = some_three;
      one = one_three;
      statuses = statuses_of_three;
      low = (owes []).low;
      keeps = three_keep;
    }
