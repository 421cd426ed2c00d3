use Rattle.std.proofs.Common.{◌≡◌, ◌++◌, drop}
use Rattle.topology.specs.Networks.{numbers}
use Rattle.stable_field.specs.Tables.{heard_from}
use Rattle.stable_field.proofs.firing.heard.Given as goal

abbrev pub invariant-loop-device : goal.invariant-loop-device
invariant-loop-device l = l.near.items ++ heard_from (numbers l.net.devices) l.table.items (drop l.device-index l.neighbours) ≡ heard_from (numbers l.net.devices) l.table.items l.neighbours
