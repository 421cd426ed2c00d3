use Rattle.std.proofs.Common.{◌≡◌, ◌++◌, map, drop}
use Rattle.topology.specs.Networks.{edge_of}
use Rattle.topology.specs.Nearby.{links_from}
use Rattle.topology.proofs.copies.push_links.Given as goal

abbrev pub invariant-loop-one : goal.invariant-loop-one
invariant-loop-one l = map edge_of l.links.items ++ links_from l.device (drop l.one-index l.one-items) ≡ map edge_of l.fn.links.items ++ links_from l.device l.near.items
