use Rattle.fragment_check.proofs.Bodies.{body_shape}
use Rattle.fragment_check.proofs.laws.patterns_have_shapes.Goals as goal

pub returns : goal.returns
returns c = body_shape
