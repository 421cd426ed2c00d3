use Rattle.scenarios.proofs.RingNetworks.{rings_are_networks}
use Rattle.scenarios.proofs.laws.rings_are_networks.Goals as goal

pub returns : goal.returns
returns c = rings_are_networks
