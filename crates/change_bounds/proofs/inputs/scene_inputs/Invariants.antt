use Rattle.std.proofs.Common.{◌≡◌, ℕ, map, take}
use Rattle.std.specs.Prelude.{option_map, slice_get}
use Rattle.topology.specs.Networks.{net_device_of, inputs_in}
use Rattle.value_bounds.specs.BoundValues.{exactly}
use Rattle.change_bounds.specs.Tables.{bound_at}
use Rattle.change_bounds.proofs.inputs.scene_inputs.Given as goal

abbrev pub invariant-loop-device : goal.invariant-loop-device
invariant-loop-device l = (d i : ℕ) → bound_at l.table d i
    ≡ option_map exactly (slice_get (inputs_in d (map net_device_of (take l.device-index l.device-items))) i)
