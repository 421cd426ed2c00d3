use Rattle.std.proofs.Common.{◌≡◌, ℕ, true, map, take, Some, None, if◌then◌else◌}
use Rattle.std.specs.Ordering.{nat_cmp}
use Rattle.std.specs.BTreeMap.{get}
use Rattle.fc_values.specs.Fields.{is_in}
use Rattle.topology.specs.Networks.{net_device_of, numbers}
use Rattle.change_bounds.proofs.devices.scene_devices.Given as goal

abbrev pub invariant-loop-device : goal.invariant-loop-device
invariant-loop-device l =
    (d : ℕ) → get nat_cmp l.table d ≡ (if is_in d (numbers (map net_device_of (take l.device-index l.device-items))) then Some true else None)
