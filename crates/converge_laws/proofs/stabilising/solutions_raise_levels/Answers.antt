use Rattle.converge_laws.proofs.Stabilised.{raises}
use Rattle.converge_laws.proofs.stabilising.solutions_raise_levels.Goals as goal

pub returns : goal.returns
returns c = λ P A N program net same an F s.
    raises P A N program net same an c.steps_keep_good.ensures.step c.faultless_steps.ensures.copy c.runs_cut.ensures.cut F s
