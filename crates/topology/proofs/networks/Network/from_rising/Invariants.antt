use Rattle.std.proofs.Common.{◌≡◌, map, take}
use Rattle.fc_values.specs.Types.{declarations_of}
use Rattle.topology.specs.Networks.{net_device_of, edge_of, network_of}
use Rattle.topology.proofs.networks.Network.from_rising.Given as goal

abbrev pub invariant-loop-link : goal.invariant-loop-link
invariant-loop-link l = l.draft ≡ network_of (declarations_of l.fn.declared) (map net_device_of l.fn.devices.items) (map edge_of (take l.link-index l.link-items))
