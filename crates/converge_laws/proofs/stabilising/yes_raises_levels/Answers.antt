use Rattle.converge_laws.proofs.Verdict.{yes_raises}
use Rattle.converge_laws.proofs.stabilising.yes_raises_levels.Goals as goal

pub returns : goal.returns
returns c = λ P N k program net same h.
    yes_raises c.patterns_have_shapes.ensures c.steps_keep_good.ensures.step c.faultless_steps.ensures.copy c.runs_cut.ensures.cut P N k program net same h
