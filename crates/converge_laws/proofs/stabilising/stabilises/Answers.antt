use Rattle.converge_laws.proofs.Verdict.{yes_stabilises}
use Rattle.converge_laws.proofs.stabilising.stabilises.Goals as goal

pub returns : goal.returns
returns c = λ k h.
    yes_stabilises c.patterns_have_shapes.ensures c.steps_keep_good.ensures.step c.faultless_steps.ensures.copy c.runs_cut.ensures.cut c.args.program.now c.args.net.now k
    c.declared.ensures.program c.declared-2.ensures.network c.requires.declared h
