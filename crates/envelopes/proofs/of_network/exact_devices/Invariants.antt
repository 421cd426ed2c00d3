use Rattle.std.proofs.Common.{◌≡◌, map, take}
use Rattle.topology.specs.Networks.{net_device_of}
use Rattle.envelopes.specs.Exactly.{exact_device}
use Rattle.envelopes.specs.Code.{maybe_device_of}
use Rattle.envelopes.proofs.of_network.exact_devices.Given as goal

abbrev pub invariant-loop-device : goal.invariant-loop-device
invariant-loop-device l =
    map maybe_device_of l.bounds.items ≡ map exact_device (map net_device_of (take l.device-index l.devices))
