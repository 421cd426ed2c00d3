use Rattle.bound_firing.proofs.Firings.{firings_land}
use Rattle.bound_firing.proofs.laws.firings_land.Goals as goal

pub returns : goal.returns
returns c = firings_land
