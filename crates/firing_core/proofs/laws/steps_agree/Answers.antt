use Rattle.firing_core.proofs.Steps.{good_fly, step_rel, step_is, run_rel, run_is}
use Rattle.firing_core.proofs.laws.steps_agree.Goals as goal

pub returns-clause-step : goal.returns-clause-step
returns-clause-step c = λ U a b e good fits. (step_rel U a b e (good_fly U a good), step_is U a b e fits)

pub returns-clause-run : goal.returns-clause-run
returns-clause-run c = λ U a b log good fits. (run_rel U a b log (good_fly U a good), run_is U a b log fits)
