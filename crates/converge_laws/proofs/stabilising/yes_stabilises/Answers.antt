use Rattle.converge_laws.proofs.Verdict.{yes_stabilises}
use Rattle.converge_laws.proofs.stabilising.yes_stabilises.Goals as goal

pub returns : goal.returns
returns c = yes_stabilises c.patterns_have_shapes.ensures c.steps_keep_good.ensures.step c.faultless_steps.ensures.copy c.runs_cut.ensures.cut
