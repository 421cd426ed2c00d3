use Rattle.firing_core.proofs.StepsKeep.{step_good, run_good, step_net}
use Rattle.firing_core.proofs.Cuts.{plain_net}
use Rattle.firing_core.proofs.laws.steps_keep_good.Goals as goal

pub returns-clause-step : goal.returns-clause-step
returns-clause-step c = step_good

pub returns-clause-run : goal.returns-clause-run
returns-clause-run c = run_good

pub returns-clause-net : goal.returns-clause-net
returns-clause-net c = step_net

pub returns-clause-plain : goal.returns-clause-plain
returns-clause-plain c = plain_net
