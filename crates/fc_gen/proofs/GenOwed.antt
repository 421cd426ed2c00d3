-- What `gen` owes.
use Rattle.std.proofs.Common.{◌≡◌, ◌≤◌, true, refl, sym, ap, ◌∙◌, subst, arith}
use Rattle.unfold.specs.Laws.{ProgramsUnfold}
use Rattle.firing_core.specs.Laws.{PlainRunsKeepNet, RunsKeepGood, StepsKeepGood}
use Rattle.converge_laws.specs.Verdicts.{YesStabilises}
use Rattle.session.specs.Laws.{OneScriptRun, SomeScriptRun}
use Rattle.ring_laws.specs.Laws.{RingsAreNetworks, RingsAreTyped, RingsStabilise}
use Rattle.command_words.specs.declared.commands.GenOptions.{GenOptions}
use Rattle.command_frame.specs.Agreement.{Agree}
use Rattle.command_frame.specs.Answers.{AnswerValue}
use Rattle.command_frame.specs.Causes.{Judged, Accepted}
use Rattle.command_frame.specs.Owing.{HasStatus}
use Rattle.command_frame.proofs.Owed.{zero_low}
use Rattle.fc_gen.specs.Gens.{Generates}
use Rattle.fc_gen.specs.Promises.{GenOwes, IsScenario, ScenarioAgrees}
use Rattle.fc_gen.proofs.Agreeing.{agree_all}
use Rattle.fc_gen.proofs.OneGens.{one_gen}
use Rattle.fc_gen.proofs.SomeGens.{some_gen}

one_accepted : (a b : AnswerValue) → ◌≡◌ {A = Judged AnswerValue} (Accepted a) (Accepted b) → a ≡ b
one_accepted a b e = cc

module _ (typed : RingsAreTyped) (networks : RingsAreNetworks) (stabilise : RingsStabilise) (unfolds : ProgramsUnfold)
    (law : YesStabilises) (step : StepsKeepGood) (keep : RunsKeepGood) (plain : PlainRunsKeepNet) (once : OneScriptRun)
    (some : SomeScriptRun) (options : GenOptions) where
  some_answer : IsScenario options → (j : Judged AnswerValue) × Generates options j
  some_answer may =
      let g = some_gen typed networks stabilise unfolds law some options.number options.devices may.least may.most in (
        Accepted g.0,
        record { least = may.least; most = may.most; answer = g.0; gens = g.1; is = refl },
      )

  one_answer : (j k : Judged AnswerValue) → Generates options j → Generates options k → Agree true j k
  one_answer j k h g =
      let agree = one_gen stabilise options.number options.devices h.least h.most once typed networks unfolds h.answer
      g.answer h.gens g.gens in
      subst (λ x. Agree true x k) (sym h.is) (subst (Agree true (Accepted h.answer)) (sym g.is) agree)

  has_status : (j : Judged AnswerValue) → Generates options j → HasStatus j
  has_status j h =
      let zero : h.answer.status ≡ 0 = ap (λ (x : AnswerValue). x.status) h.gens.is in
      let low : h.answer.status ≤ 1 = omega (arith, zero) in
      subst HasStatus (sym h.is) low

  keeps : (a : AnswerValue) → Generates options (Accepted a)
      → ScenarioAgrees options.number options.devices a.text
  keeps a h =
      subst (λ (x : AnswerValue). ScenarioAgrees options.number options.devices x.text)
      (sym (one_accepted a h.answer h.is))
      (agree_all typed networks stabilise unfolds law step keep plain options.number options.devices h.least h.most
      h.answer h.gens)

pub gen_owes : RingsAreTyped → RingsAreNetworks → RingsStabilise → ProgramsUnfold → YesStabilises → StepsKeepGood
    → RunsKeepGood → PlainRunsKeepNet → OneScriptRun → SomeScriptRun → GenOwes
gen_owes typed networks stabilise unfolds law step keep plain once some options = record {
  some = λ ss may.
      some_answer typed networks stabilise unfolds law step keep plain once some options may;
  one = λ ss j k h g. one_answer typed networks stabilise unfolds law step keep plain once some options j k h g;
  statuses = λ ss j h. has_status typed networks stabilise unfolds law step keep plain once some options j h;
  low = zero_low;
  keeps = λ ss a h zero. keeps typed networks stabilise unfolds law step keep plain once some options a h;
}
