use Rattle.settle_rounds.proofs.Inside.{firings_land_within}
use Rattle.settle_rounds.proofs.laws.firings_land_within.Goals as goal

pub returns : goal.returns
returns c = firings_land_within
