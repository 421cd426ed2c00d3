use Rattle.closed_terms.proofs.Whole.{parts_solve}
use Rattle.closed_terms.proofs.laws.parts_solve.Goals as goal

pub returns : goal.returns
returns c = parts_solve
