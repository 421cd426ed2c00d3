use Rattle.std.proofs.Common.{◌≡◌, take, map}
use Rattle.topology.specs.Networks.{net_device_of}
use Rattle.topology.proofs.copies.copy_devices.Given as goal

abbrev pub invariant-loop-device : goal.invariant-loop-device
invariant-loop-device l = map net_device_of l.copies.items ≡ map net_device_of (take l.device-index l.devices)
