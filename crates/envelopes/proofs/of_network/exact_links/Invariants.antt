use Rattle.std.proofs.Common.{◌≡◌, map, take}
use Rattle.topology.specs.Networks.{edge_of}
use Rattle.envelopes.specs.Exactly.{exact_link}
use Rattle.envelopes.specs.Code.{maybe_link_of}
use Rattle.envelopes.proofs.of_network.exact_links.Given as goal

abbrev pub invariant-loop-link : goal.invariant-loop-link
invariant-loop-link l = map maybe_link_of l.bounds.items ≡ map exact_link (map edge_of (take l.link-index l.links))
