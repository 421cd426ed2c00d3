use Rattle.std.proofs.Common.{◌≡◌, ◌≤◌, ◌*◌, take}
use Rattle.std.specs.Prelude.{sum_by}
use Rattle.topology.specs.declared.types.Device.{Device}
use Rattle.topology.specs.Networks.{net_device_of}
use Rattle.firing_core.specs.CoreViews.{core_of}
use Rattle.fc_gen.specs.Summaries.{held_integer}
use Rattle.fc_gen.proofs.counts.held_sum.Given as goal

abbrev pub invariant-loop-device : goal.invariant-loop-device
invariant-loop-device l = record {
  sum : l.sum ≡ sum_by (λ (d : Device). held_integer (core_of l.fn.core) (net_device_of d)) (take l.device-index l.device-items);
  small : l.sum ≤ l.device-index * 4294967295;
}
