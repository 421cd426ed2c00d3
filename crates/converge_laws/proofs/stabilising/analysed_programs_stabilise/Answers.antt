use Rattle.converge_laws.proofs.Stabilised.{stabilised}
use Rattle.converge_laws.proofs.stabilising.analysed_programs_stabilise.Goals as goal

pub returns : goal.returns
returns c = λ P A N program net same an.
    stabilised P A N program net same an c.steps_keep_good.ensures.step c.faultless_steps.ensures.copy c.runs_cut.ensures.cut
