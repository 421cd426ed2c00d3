use Rattle.fragment_check.proofs.Unshaped.{no_shape}
use Rattle.fragment_check.proofs.laws.reasons_have_no_shape.Goals as goal

pub returns : goal.returns
returns c = no_shape
