-- What commands owe of sections, `fc` owes of inputs, and of what the words ask for.
use Rattle.std.proofs.Common.{ℕ, ◌≡◌, ◌≢◌, ◌≤◌, Bool, true, false, List, length, refl, ap, sym, subst, arith, Option, Some, None}
use Rattle.std.specs.Prelude.{nat_lt, if◌then◌else◌}
use Rattle.std.specs.Option.{option_or}
use Rattle.std.proofs.lemmas.Bool.Decides.{nat_tests}
use Rattle.command_words.specs.declared.commands.Command.{Command}
use Rattle.command_words.specs.declared.commands.Command.TheVariants as command
use Rattle.command_words.specs.declared.commands.Quiet.{Quiet}
use Rattle.command_words.specs.declared.commands.Limit.{Limit}
use Rattle.command_words.specs.declared.commands.Limit.TheVariants.{Workers, Devices}
use Rattle.command_words.specs.declared.commands.Threaded.{Threaded}
use Rattle.command_words.specs.declared.commands.Work.{Work}
use Rattle.command_words.specs.declared.commands.Work.TheVariants.{Run, Gen}
use Rattle.command_words.specs.Commands.{IsThreaded, IsWork, devices_limit, limit_of, workers_limit, work_limit}
use Rattle.fc_values.specs.declared.limits.TheConstants.{MOST_BYTES, MOST_SCENARIO_DEVICES, MOST_WORKERS}
use Rattle.command_frame.specs.declared.refusal.Refusal.TheVariants.{Usage, Bytes}
use Rattle.command_frame.specs.Agreement.{Agree, AnswersAgree}
use Rattle.command_frame.specs.Answers.{AnswerValue}
use Rattle.command_frame.specs.Causes.{Plainly, Judged, Accepted, Refused, answer_of}
use Rattle.command_frame.specs.Owing.{HasStatus, Owes, RefusesBy}
use Rattle.command_frame.specs.Refusals.{status_of}
use Rattle.command_frame.specs.Sections.{AreWithin, SectionsAreWithin, sections_of}
use Rattle.command_frame.proofs.Agreeing.{answers_agree, both_refused}
use Rattle.command_frame.proofs.Owed.{refused_status}
use Rattle.command_frame.proofs.RefusalStatuses.{by_four}
use Rattle.fc_gen.specs.Gens.{Generates}
use Rattle.fc_answers.specs.Asked.{MayAsk, limit_refusal}
use Rattle.fc_answers.specs.Answers.{AnswersAsked, AnswersWithin, AnswersWork, OfInput, OfLength, Works}
use Rattle.fc_answers.specs.Headline.{AnswersKeep, IsKept, WorkIsKept, WorkPromises}
use Rattle.fc_answers.specs.Laws.{AnswerStatus, AnswerStatuses, CommandsOwe, OneAnswer, SomeAnswer, threads_of}

-- a refusal has no low status
refused_keeps : {A : Type 0} (j : Judged AnswerValue) (status : ℕ) → HasStatus j → (answer_of j).status ≡ status → status ≤ 1
    → ((answer : AnswerValue) → j ≡ Accepted answer → A) → A
refused_keeps (Accepted answer) status has is low keep = keep answer refl
refused_keeps (Refused cause) status has is low keep =
    let many = has.many in
    absurd (omega (arith, many, is, low))

-- ---- inputs of any length
module _ (threads : Bool) (Makes : List (List ℕ) → Judged AnswerValue → Type 0) (IsYes : ℕ → Type 0)
    (P : List (List ℕ) → AnswerValue → Type 0) (owes : Owes threads (AreWithin MOST_BYTES) Makes IsYes P) where
  some_input : SectionsAreWithin → (input : List ℕ) → (j : Judged AnswerValue) × OfInput Makes input j
  some_input within input = by_length (nat_lt MOST_BYTES (length input)) refl
    where
      few : (n : ℕ) → nat_lt MOST_BYTES n ≡ false → n ≤ MOST_BYTES
      few n e = grind (arith, nat_tests)

      by_length : (b : Bool) → nat_lt MOST_BYTES (length input) ≡ b
          → (j : Judged AnswerValue) × OfLength b Makes input j
      by_length true long = (Refused (Plainly Bytes), refl)
      by_length false short = owes.some (sections_of input) (within input MOST_BYTES (few (length input) short))

  one_input : (input : List ℕ) (j k : Judged AnswerValue) → OfInput Makes input j → OfInput Makes input k
      → Agree threads j k
  one_input input j k h g = by_length (nat_lt MOST_BYTES (length input)) h g
    where
      by_length : (b : Bool) → OfLength b Makes input j → OfLength b Makes input k → Agree threads j k
      by_length true e f = both_refused threads j k _ e f
      by_length false x y = owes.one (sections_of input) j k x y

  input_status : (input : List ℕ) (j : Judged AnswerValue) → OfInput Makes input j → HasStatus j
  input_status input j h = by_length (nat_lt MOST_BYTES (length input)) h
    where
      by_length : (b : Bool) → OfLength b Makes input j → HasStatus j
      by_length true e = refused_status j (Plainly Bytes) by_four e
      by_length false x = owes.statuses (sections_of input) j x

  input_keeps : (input : List ℕ) (j : Judged AnswerValue) → OfInput Makes input j → IsYes (answer_of j).status
      → P (sections_of input) (answer_of j)
  input_keeps input j h says =
      refused_keeps j (answer_of j).status (input_status input j h) refl (owes.low (answer_of j).status says)
      (λ answer e. subst Kept (sym e) (by_length (nat_lt MOST_BYTES (length input)) answer) h says)
    where
      Kept : Judged AnswerValue → Type 0
      Kept k = OfInput Makes input k → IsYes (answer_of k).status → P (sections_of input) (answer_of k)

      by_length : (b : Bool) (answer : AnswerValue) → OfLength b Makes input (Accepted answer) → IsYes answer.status
          → P (sections_of input) answer
      by_length true answer e is = absurd (cc e)
      by_length false answer x is = owes.keeps (sections_of input) answer x is

-- a scenario whose numbers pass no limit has few devices
few_devices : (workers devices : ℕ) → option_or (workers_limit workers) (devices_limit devices) ≡ None
    → devices ≤ MOST_SCENARIO_DEVICES
few_devices workers devices h = by_tests (nat_lt MOST_WORKERS workers) (nat_lt MOST_SCENARIO_DEVICES devices) refl h
  where
    by_tests : (p q : Bool) → nat_lt MOST_SCENARIO_DEVICES devices ≡ q
        → option_or {T = Limit × ℕ} (if p then Some (Workers, workers) else None)
        (if q then Some (Devices, devices) else None) ≡ None
        → devices ≤ MOST_SCENARIO_DEVICES
    by_tests true q e h = absurd cc
    by_tests false true e h = absurd cc
    by_tests false false e h = grind (arith, nat_tests)

limit_status : (limit : Limit) (count : ℕ) → RefusesBy (status_of (limit_refusal limit count))
limit_status Workers count = by_four
limit_status Devices count = by_four

module _ (owe : CommandsOwe) where
  -- ---- work
  some_work : SectionsAreWithin → (workers : ℕ) (work : Work) (input : List ℕ) → IsWork work
      → option_or (workers_limit workers) (work_limit work) ≡ None
      → (j : Judged AnswerValue) × AnswersWork work input j
  some_work within workers (Run o) input may past = some_input true _ _ _ (owe.run o) within input
  some_work within workers (Gen o) input may past =
      (owe.gen o).some (sections_of input) (record { least = may; most = few_devices workers o.devices past })

  one_work : (work : Work) (input : List ℕ) (j k : Judged AnswerValue) → AnswersWork work input j
      → AnswersWork work input k → Agree true j k
  one_work (Run o) input j k h g = one_input true _ _ _ (owe.run o) input j k h g
  one_work (Gen o) input j k h g = (owe.gen o).one (sections_of input) j k h g

  work_status : (work : Work) (input : List ℕ) (j : Judged AnswerValue) → AnswersWork work input j → HasStatus j
  work_status (Run o) input j h = input_status true _ _ _ (owe.run o) input j h
  work_status (Gen o) input j h = (owe.gen o).statuses (sections_of input) j h

  work_keeps : (work : Work) (input : List ℕ) (j : Judged AnswerValue) → AnswersWork work input j
      → (answer_of j).status ≡ 0 → WorkPromises work (sections_of input) (answer_of j)
  work_keeps (Run o) input j h zero = input_keeps true _ _ _ (owe.run o) input j h zero
  work_keeps (Gen o) input j h zero =
      refused_keeps j (answer_of j).status ((owe.gen o).statuses (sections_of input) j h) refl
      ((owe.gen o).low (answer_of j).status zero)
      (λ answer e. subst Kept (sym e) (λ x is. (owe.gen o).keeps (sections_of input) answer x is) h zero)
    where
      Kept : Judged AnswerValue → Type 0
      Kept k = Generates o k → (answer_of k).status ≡ 0 → WorkPromises (Gen o) (sections_of input) (answer_of k)

  pub works_keep : (work : Work) (input : List ℕ) (answer : AnswerValue) → Works work input answer
      → WorkIsKept work input answer
  works_keep work input answer h =
      subst (λ (a : AnswerValue). a.status ≡ 0 → WorkPromises work (sections_of input) a) (sym h.is)
      (work_keeps work input h.judged h.makes)

  -- ---- within the limits of numbers
  some_within : SectionsAreWithin → (t : Threaded) (input : List ℕ) → IsThreaded t → (o : Option (Limit × ℕ))
      → limit_of t ≡ o → (j : Judged AnswerValue) × AnswersWithin o t.work input j
  some_within within t input may (Some limit) past = (Refused (Plainly (limit_refusal limit.0 limit.1)), refl)
  some_within within t input may None past = some_work within t.workers t.work input may.work past

  one_within : (o : Option (Limit × ℕ)) (work : Work) (input : List ℕ) (j k : Judged AnswerValue)
      → AnswersWithin o work input j → AnswersWithin o work input k → Agree true j k
  one_within (Some limit) work input j k h g = both_refused true j k _ h g
  one_within None work input j k h g = one_work work input j k h g

  within_status : (o : Option (Limit × ℕ)) (work : Work) (input : List ℕ) (j : Judged AnswerValue)
      → AnswersWithin o work input j → HasStatus j
  within_status (Some limit) work input j h = refused_status j _ (limit_status limit.0 limit.1) h
  within_status None work input j h = work_status work input j h

  within_keeps : (o : Option (Limit × ℕ)) (work : Work) (input : List ℕ) (j : Judged AnswerValue)
      → AnswersWithin o work input j → (answer_of j).status ≡ 0 → WorkPromises work (sections_of input) (answer_of j)
  within_keeps (Some (Workers, count)) work input j h zero =
      let four : (answer_of j).status ≡ 4 = ap (λ k. (answer_of k).status) h in
      absurd (omega (arith, four, zero))
  within_keeps (Some (Devices, count)) work input j h zero =
      let four : (answer_of j).status ≡ 4 = ap (λ k. (answer_of k).status) h in
      absurd (omega (arith, four, zero))
  within_keeps None work input j h zero = work_keeps work input j h zero

  -- ---- what the words ask for
  some_asked : SectionsAreWithin → (asked : Option Command) (input : List ℕ) → MayAsk asked
      → (j : Judged AnswerValue) × AnswersAsked asked input j
  some_asked within None input may = (Refused (Plainly Usage), refl)
  some_asked within (Some (command.Quiet quiet)) input may = some_input false _ _ _ (owe.quiet quiet) within input
  some_asked within (Some (command.Threaded t)) input may = some_within within t input may (limit_of t) refl

  pub some_answer : SectionsAreWithin → SomeAnswer
  some_answer within asked input may =
      let r = some_asked within asked input may in
      (answer_of r.0, record { judged = r.0; makes = r.1; is = refl })

  one_asked : (asked : Option Command) (input : List ℕ) (j k : Judged AnswerValue) → AnswersAsked asked input j
      → AnswersAsked asked input k → Agree (threads_of asked) j k
  one_asked None input j k h g = both_refused false j k _ h g
  one_asked (Some (command.Quiet quiet)) input j k h g = one_input false _ _ _ (owe.quiet quiet) input j k h g
  one_asked (Some (command.Threaded t)) input j k h g = one_within (limit_of t) t.work input j k h g

  pub one_answer : OneAnswer
  one_answer asked input a b h g =
      let same = answers_agree (threads_of asked) h.judged g.judged
      (one_asked asked input h.judged g.judged h.makes g.makes) in
      subst (λ x. AnswersAgree (threads_of asked) x b) (sym h.is)
      (subst (AnswersAgree (threads_of asked) (answer_of h.judged)) (sym g.is) same)

  command_status : (command : Command) (input : List ℕ) (j : Judged AnswerValue) → AnswersAsked (Some command) input j
      → HasStatus j
  command_status (command.Quiet quiet) input j h = input_status false _ _ _ (owe.quiet quiet) input j h
  command_status (command.Threaded t) input j h = within_status (limit_of t) t.work input j h

  no_usage : (asked : Command) (j : Judged AnswerValue) → HasStatus j → AnswerStatus (Some asked) (answer_of j)
  no_usage asked (Accepted answer) low = record {
    usage = λ two. absurd (omega (arith, two, low));
    few = omega (arith, low);
  }
  no_usage asked (Refused cause) by =
      let many = by.many in
      record { usage = λ two. absurd (omega (arith, two, many)); few = by.few }

  asked_status : (asked : Option Command) (input : List ℕ) (j : Judged AnswerValue) → AnswersAsked asked input j
      → AnswerStatus asked (answer_of j)
  asked_status None input j e =
      let same : (answer_of j).status ≡ 2 = ap (λ k. (answer_of k).status) e in
      record { usage = λ two. refl; few = omega (arith, same) }
  asked_status (Some command) input j h = no_usage command j (command_status command input j h)

  pub answer_statuses : AnswerStatuses
  answer_statuses asked input a h =
      subst (AnswerStatus asked) (sym h.is) (asked_status asked input h.judged h.makes)

  asked_keeps : (asked : Option Command) (input : List ℕ) (j : Judged AnswerValue) → AnswersAsked asked input j
      → IsKept asked input (answer_of j)
  asked_keeps None input j h = tt
  asked_keeps (Some (command.Quiet quiet)) input j h = input_keeps false _ _ _ (owe.quiet quiet) input j h
  asked_keeps (Some (command.Threaded t)) input j h = within_keeps (limit_of t) t.work input j h

  pub answers_keep : AnswersKeep
  answers_keep asked input answer h =
      subst (IsKept asked input) (sym h.is) (asked_keeps asked input h.judged h.makes)
