-- What `check` owes.
use Rattle.std.proofs.Common.{ℕ, ◌≡◌, ◌≤◌, Bool, false, List, length, refl, ap, ◌∙◌, arith, Option, Some, None}
use Rattle.fc_nodes.specs.Program.{IsProgram, Program, Unfolding, unfolding_of}
use Rattle.fc_nodes.specs.declared.verdicts.Verdict.{Verdict}
use Rattle.fc_nodes.specs.declared.verdicts.Verdict.TheVariants as verdict
use Rattle.interval_facts.specs.Ranges.{ranges_of}
use Rattle.fragment_check.specs.Verdicts.{levels_of, verdict_of}
use Rattle.firing_core.specs.Cores.{IsGood}
use Rattle.converge_laws.specs.Verdicts.{YesStabilises}
use Rattle.settle_rounds.specs.Rounds.{any_table}
use Rattle.settle_rounds.specs.SettleTimes.{SettlesWell, SettleTimesHold}
use Rattle.settle_rounds.specs.StartTimes.{SettlesFrom, StartTimesHold}
use Rattle.settle_rounds.specs.Within.{OneStartWithin, StartsHoldWithin}
use Rattle.net_json.specs.Scenes.{SceneValue}
use Rattle.report.specs.Facts.{facts_text}
use Rattle.verdict_texts.specs.VerdictTexts.{checked_text, facts_behind}
use Rattle.command_words.specs.declared.commands.Start.{Start}
use Rattle.command_words.specs.declared.commands.Start.TheVariants.{Any, Table}
use Rattle.command_frame.specs.Agreement.{Agree}
use Rattle.command_frame.specs.Answers.{AnswerValue, plain}
use Rattle.command_frame.specs.Causes.{Judged, Accepted, answer_of}
use Rattle.command_frame.specs.Inputs.{InputOf, ReadsInput}
use Rattle.command_frame.specs.Owing.{HasStatus}
use Rattle.command_frame.specs.Starts.{InputsAreRead, start_of}
use Rattle.command_frame.proofs.Agreeing.{both_plain}
use Rattle.command_frame.proofs.KeptYes.{at_program, yes_kept}
use Rattle.command_frame.proofs.Owed.{OwesScenes, plain_status, texts_owe, two_owe}
use Rattle.fc_check.specs.Checks.{ChecksScene, verdict_status}
use Rattle.fc_check.specs.Commands.{Checks, ChecksFrom}
use Rattle.fc_check.specs.Promises.{CheckOwes, CheckPromises, KeepsYesOnEach, SettlesKept, StartKept, VerdictKept}
use Rattle.fc_check.specs.Settles.{SettlesScene, StartsFrom, settle_status, settling_of, time_of}
use Rattle.fc_check.proofs.Settling.{one_scene, some_table}

verdict_low : (v : Verdict) → verdict_status v ≤ 1
verdict_low (verdict.Yes rounds) = omega arith
verdict_low (verdict.No place why) = omega arith

time_low : (o : Option ℕ) → settle_status o ≤ 1
time_low (Some rounds) = omega arith
time_low None = omega arith

module _ (laws : InputsAreRead) (law : YesStabilises) (one : OneStartWithin) (starts : StartsHoldWithin)
    (hold : SettleTimesHold) (hold_from : StartTimesHold) (facts : Bool) where
  -- ---- what is promised
  -- a yes is kept on each network
  on_each : (program network : List ℕ) (i : InputOf) → ReadsInput program network (Accepted i)
      → KeepsYesOnEach i.0 (length i.1.net.devices)
  on_each program network i reads =
      at_program laws program network i reads (λ U. KeepsYesOnEach U (length i.1.net.devices))
      (λ P is good K said N net declared many.
      law P N K is net declared (ap (verdict_of (unfolding_of P)) many ∙ said))

  check_keeps : (program network : List ℕ) (i : InputOf) → ReadsInput program network (Accepted i) → (a : AnswerValue)
      → ChecksScene facts i.0 i.1 (Accepted a) → VerdictKept program network a.status a.text
  check_keeps program network i reads a e =
      let n = length i.1.net.devices in
      record {
        unfolded = i.0;
        scene = i.1;
        reads = reads;
        yes = yes_kept laws program network i reads law;
        each = on_each program network i reads;
        ends = ap (λ j. (answer_of j).status) e;
        facts = facts_behind facts (verdict_of i.0 n) (facts_text i.0 (ranges_of i.0) (levels_of i.0 n));
        writes = ap (λ j. (answer_of j).text) e;
      }

  settle_keeps : (program network : List ℕ) (i : InputOf) → ReadsInput program network (Accepted i) → (a : AnswerValue)
      → SettlesScene facts Any i.0 i.1 (Accepted a) → SettlesKept facts program network a.status a.text
  settle_keeps program network i reads a e =
      let settled : ◌≡◌ {A = Judged AnswerValue} (Accepted a)
      (Accepted (settling_of facts i.0 i.1.net (any_table i.0))) =
      e.settled ∙ ap (λ t. Accepted (settling_of facts i.0 i.1.net t)) e.starts in
      record {
        unfolded = i.0;
        scene = i.1;
        reads = reads;
        yes = yes_kept laws program network i reads law;
        each = on_each program network i reads;
        well = at_program laws program network i reads (λ U. SettlesWell U i.1.net)
            (λ P is good. hold P i.1.net is good.net good.declared);
        ends = ap (λ j. (answer_of j).status) settled;
        writes = ap (λ j. (answer_of j).text) settled;
      }

  start_keeps : (program network : List ℕ) (i : InputOf) → ReadsInput program network (Accepted i) → (a : AnswerValue)
      → SettlesScene facts Table i.0 i.1 (Accepted a) → StartKept facts program network a.status a.text
  start_keeps program network i reads a e = record {
    unfolded = i.0;
    scene = i.1;
    reads = reads;
    yes = yes_kept laws program network i reads law;
    each = on_each program network i reads;
    table = e.table;
    starts = e.starts;
    from = at_program laws program network i reads
        (λ U. StartsFrom Table U i.1 e.table → SettlesFrom U i.1.net (start_of i.1) e.table)
        (λ P is good starts. hold_from P i.1.net is good.net good.declared (start_of i.1) good refl e.table starts)
        e.starts;
    ends = ap (λ j. (answer_of j).status) e.settled;
    writes = ap (λ j. (answer_of j).text) e.settled;
  }

  -- ---- what is owed
  some_from : (o : Option Start) (Q : Program) (s : SceneValue) → IsProgram Q → IsGood (unfolding_of Q) (start_of s)
      → (j : Judged AnswerValue) × ChecksFrom facts o (unfolding_of Q) s j
  some_from None Q s is good =
      let n = length s.net.devices in
      (Accepted (plain (verdict_status (verdict_of (unfolding_of Q) n)) (checked_text facts (unfolding_of Q) n)), refl)
  some_from (Some from) Q s is good =
      let t = some_table starts Q is s good from in (
        Accepted (settling_of facts (unfolding_of Q) s.net t.0),
        record { table = t.0; starts = t.1; settled = refl },
      )

  one_from : (o : Option Start) (Q : Program) (s : SceneValue) → IsProgram Q → IsGood (unfolding_of Q) (start_of s)
      → (j k : Judged AnswerValue) → ChecksFrom facts o (unfolding_of Q) s j → ChecksFrom facts o (unfolding_of Q) s k
      → Agree false j k
  one_from None Q s is good j k h g = both_plain false j k _ _ h g
  one_from (Some from) Q s is good j k h g = one_scene one facts from (unfolding_of Q) s good.net j k h g

  statuses_from : (o : Option Start) (U : Unfolding) (s : SceneValue) (j : Judged AnswerValue) → ChecksFrom facts o U s j
      → HasStatus j
  statuses_from None U s j h = plain_status j _ _ (verdict_low (verdict_of U (length s.net.devices))) h
  statuses_from (Some from) U s j h = plain_status j _ _ (time_low (time_of U s.net h.table)) h.settled

  keeps_from : (o : Option Start) (program network : List ℕ) (i : InputOf) → ReadsInput program network (Accepted i)
      → (a : AnswerValue) → ChecksFrom facts o i.0 i.1 (Accepted a) → a.status ≤ 1
      → CheckPromises facts o program network a
  keeps_from None program network i reads a h low = check_keeps program network i reads a h
  keeps_from (Some Any) program network i reads a h low = settle_keeps program network i reads a h
  keeps_from (Some Table) program network i reads a h low = start_keeps program network i reads a h

  pub scenes_owe : (o : Option Start)
      → OwesScenes false (λ U s j. ChecksFrom facts o U s j) (λ status. status ≤ 1) (CheckPromises facts o)
  scenes_owe o = record {
    some = some_from o;
    one = one_from o;
    statuses = statuses_from o;
    low = λ status low. low;
    keeps = keeps_from o;
  }

pub check_owes : InputsAreRead → YesStabilises → OneStartWithin → StartsHoldWithin → SettleTimesHold → StartTimesHold
    → CheckOwes
check_owes laws law one starts hold hold_from o =
    two_owe false (Checks o) (λ status. status ≤ 1) (CheckPromises o.facts o.settle)
    (texts_owe laws false (λ U s j. ChecksFrom o.facts o.settle U s j) (λ status. status ≤ 1)
    (CheckPromises o.facts o.settle) (scenes_owe laws law one starts hold hold_from o.facts o.settle))
