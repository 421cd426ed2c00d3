use Rattle.unfold.proofs.Whole.{programs_unfold}
use Rattle.unfold.proofs.laws.programs_unfold.Goals as goal

pub returns : goal.returns
returns c = programs_unfold
