-- What `stable` owes.
use Rattle.std.proofs.Common.{ℕ, ◌≡◌, ◌≤◌, false, List, length, map, refl, ap, ◌∙◌, sym, arith}
use Rattle.fc_values.specs.Fields.{Entries}
use Rattle.fc_nodes.specs.Program.{IsProgram, Program, Unfolding, unfolding_of}
use Rattle.fc_nodes.specs.declared.verdicts.Verdict.{Verdict}
use Rattle.fc_nodes.specs.declared.verdicts.Verdict.TheVariants as verdict
use Rattle.topology.specs.Networks.{Network, numbers}
use Rattle.fragment_check.specs.Verdicts.{verdict_of}
use Rattle.firing_core.specs.Cores.{IsGood}
use Rattle.converge_laws.specs.Stabilising.{HasOneSolution}
use Rattle.converge_laws.specs.Verdicts.{YesStabilises}
use Rattle.net_json.specs.Scenes.{SceneValue}
use Rattle.report.specs.Texts.{field_text}
use Rattle.report.specs.Verdicts.{verdict_text}
use Rattle.stable_field.proofs.OneField.{one_field}
use Rattle.command_frame.specs.Agreement.{Agree}
use Rattle.command_frame.specs.Answers.{AnswerValue, plain}
use Rattle.command_frame.specs.Causes.{Judged, Accepted, answer_of}
use Rattle.command_frame.specs.Inputs.{InputOf, ReadsInput}
use Rattle.command_frame.specs.Owing.{HasStatus, IsZero}
use Rattle.command_frame.specs.Starts.{InputsAreRead, start_of}
use Rattle.command_frame.proofs.Agreeing.{both_plain}
use Rattle.command_frame.proofs.KeptYes.{has_yes}
use Rattle.command_frame.proofs.Owed.{plain_status, texts_owe, two_owe, zero_low}
use Rattle.fc_stable.specs.Promises.{SolvesYes, StableOwes, stable_entries}
use Rattle.fc_stable.specs.Stabilised.{StabilisedBy, StabilisesScene, Stabilised}

-- ---- one answer
one_by : (v : Verdict) (U : Unfolding) (N : Network) (a b : AnswerValue) (j k : Judged AnswerValue) → StabilisedBy v U N a
    → StabilisedBy v U N b → j ≡ Accepted a → k ≡ Accepted b → Agree false j k
one_by (verdict.Yes rounds) U N a b j k h g e f =
    both_plain false j k 0 (field_text g.field)
    (e ∙ ap Accepted (h.is ∙ ap (λ es. plain 0 (field_text es)) (one_field U N h.field g.field h.stable g.stable)))
    (f ∙ ap Accepted g.is)
one_by (verdict.No place why) U N a b j k h g e f =
    both_plain false j k 1 (verdict_text (verdict.No place why)) (e ∙ ap Accepted h) (f ∙ ap Accepted g)

one_scene : (Q : Program) (s : SceneValue) → IsProgram Q → IsGood (unfolding_of Q) (start_of s)
    → (j k : Judged AnswerValue) → StabilisesScene (unfolding_of Q) s j → StabilisesScene (unfolding_of Q) s k
    → Agree false j k
one_scene Q s is good j k h g =
    one_by (verdict_of (unfolding_of Q) (length s.net.devices)) (unfolding_of Q) s.net h.answer g.answer j k h.writes
    g.writes h.is g.is

-- ---- an answer
some_by : YesStabilises → (Q : Program) → IsProgram Q → (s : SceneValue) → IsGood (unfolding_of Q) (start_of s)
    → (v : Verdict) → verdict_of (unfolding_of Q) (length s.net.devices) ≡ v
    → (a : AnswerValue) × StabilisedBy v (unfolding_of Q) s.net a
some_by law Q is s good (verdict.Yes k) e =
    let one : HasOneSolution (unfolding_of Q) s.net = (law Q s.net k is good.net good.declared e).one in
    let field : Entries = map (λ d. (d, one.field d)) (numbers s.net.devices) in (
      plain 0 (field_text field),
      record { field = field; stable = record { one = one; values = refl }; is = refl },
    )
some_by law Q is s good (verdict.No place why) e = (plain 1 (verdict_text (verdict.No place why)), refl)

some_scene : YesStabilises → (Q : Program) (s : SceneValue) → IsProgram Q → IsGood (unfolding_of Q) (start_of s)
    → (j : Judged AnswerValue) × StabilisesScene (unfolding_of Q) s j
some_scene law Q s is good =
    let a = some_by law Q is s good (verdict_of (unfolding_of Q) (length s.net.devices)) refl in
    (Accepted a.0, record { answer = a.0; writes = a.1; is = refl })

-- ---- its status
status_by : (v : Verdict) (U : Unfolding) (N : Network) (a : AnswerValue) (j : Judged AnswerValue) → StabilisedBy v U N a
    → j ≡ Accepted a → HasStatus j
status_by (verdict.Yes rounds) U N a j h e =
    plain_status j 0 (field_text h.field) (omega arith) (e ∙ ap Accepted h.is)
status_by (verdict.No place why) U N a j h e =
    plain_status j 1 (verdict_text (verdict.No place why)) (omega arith) (e ∙ ap Accepted h)

status_of_scene : (U : Unfolding) (s : SceneValue) (j : Judged AnswerValue) → StabilisesScene U s j → HasStatus j
status_of_scene U s j h = status_by (verdict_of U (length s.net.devices)) U s.net h.answer j h.writes h.is

-- ---- what is promised
keeps_by : InputsAreRead → YesStabilises → (program network : List ℕ) (i : InputOf)
    → ReadsInput program network (Accepted i) → (a : AnswerValue) (e : StabilisesScene i.0 i.1 (Accepted a))
    → a.status ≡ 0 → (v : Verdict) → verdict_of i.0 (length i.1.net.devices) ≡ v → StabilisedBy v i.0 i.1.net e.answer
    → SolvesYes program network a.text
keeps_by laws law program network i reads a e zero (verdict.Yes rounds) said w =
    let y = has_yes laws program network i reads law rounds said in
    let same : w.field ≡ stable_entries program network y =
    one_field i.0 i.1.net w.field (stable_entries program network y) w.stable
    (record { one = y.stabilises.one; values = refl }) in
    record {
      yes = y;
      writes = ap (λ j. (answer_of j).text) e.is ∙ ap (λ (x : AnswerValue). x.text) w.is ∙ ap field_text same;
    }
keeps_by laws law program network i reads a e zero (verdict.No place why) said w =
    let one : 0 ≡ 1 =
    sym zero ∙ ap (λ j. (answer_of j).status) e.is ∙ ap (λ (x : AnswerValue). x.status) w in
    absurd (cc one)

pub stable_owes : InputsAreRead → YesStabilises → StableOwes
stable_owes laws law =
    two_owe false Stabilised IsZero (λ program network a. SolvesYes program network a.text)
    (texts_owe laws false StabilisesScene IsZero (λ program network a. SolvesYes program network a.text) (record {
      some = some_scene law;
      one = one_scene;
      statuses = status_of_scene;
      low = zero_low;
      keeps = λ program network i reads a e zero.
          keeps_by laws law program network i reads a e zero (verdict_of i.0 (length i.1.net.devices)) refl e.writes;
    }))
