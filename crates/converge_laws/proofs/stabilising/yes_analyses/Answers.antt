use Rattle.converge_laws.proofs.Verdict.{yes_analyses}
use Rattle.converge_laws.proofs.stabilising.yes_analyses.Goals as goal

pub returns : goal.returns
returns c = yes_analyses c.patterns_have_shapes.ensures
