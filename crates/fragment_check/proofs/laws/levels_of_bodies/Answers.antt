use Rattle.fragment_check.proofs.PartLevels.{body_level}
use Rattle.fragment_check.proofs.laws.levels_of_bodies.Goals as goal

pub returns : goal.returns
returns c = body_level
