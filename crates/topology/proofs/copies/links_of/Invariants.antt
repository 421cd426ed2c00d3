use Rattle.std.proofs.Common.{◌≡◌, ◌++◌, map, drop}
use Rattle.topology.specs.Networks.{net_device_of, edge_of, numbers}
use Rattle.topology.specs.Nearby.{items_of, links_in}
use Rattle.topology.proofs.copies.links_of.Given as goal

abbrev pub invariant-loop-i : goal.invariant-loop-i
invariant-loop-i l = map edge_of l.links.items ++ links_in (numbers (map net_device_of (drop l.i l.devices))) (map items_of (drop l.i l.near)) ≡ links_in (numbers (map net_device_of l.devices)) (map items_of l.near)
