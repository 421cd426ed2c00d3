use Rattle.scenarios.proofs.RingNetworks.{ring_network}
use Rattle.scenarios.proofs.rings.network.Goals as goal

pub from_rising-requires : goal.from_rising-requires
from_rising-requires c = let n = ring_network c.args.source c.args.count c.requires.least c.requires.most in rw (c.in_ok-declared.ensures, c.in_ok-devices.ensures, c.in_ok-links.ensures) n
