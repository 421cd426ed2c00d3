use Rattle.std.proofs.Common.{◌≡◌, ◌++◌, map, drop}
use Rattle.topology.specs.Networks.{net_device_of, numbers}
use Rattle.walks.specs.Gathering.{added_of, steps_from}
use Rattle.walks.proofs.gathers.all_steps.Given as goal

abbrev pub invariant-loop-device : goal.invariant-loop-device
invariant-loop-device l = steps_from l.net (added_of l.add) (numbers (map net_device_of l.devices)) ≡ l.steps.items ++ steps_from l.net (added_of l.add) (numbers (map net_device_of (drop l.device-index l.devices)))
