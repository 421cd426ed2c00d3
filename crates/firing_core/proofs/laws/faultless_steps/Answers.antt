use Rattle.firing_core.proofs.StepsKeep.{step_exactly, begun_fits}
use Rattle.firing_core.proofs.laws.faultless_steps.Goals as goal

pub returns-clause-step : goal.returns-clause-step
returns-clause-step c = step_exactly

pub returns-clause-copy : goal.returns-clause-copy
returns-clause-copy c = begun_fits
