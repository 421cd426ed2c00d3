use Rattle.std.proofs.Common.{◌≡◌, drop}
use Rattle.fc_values.specs.Fields.{is_in}
use Rattle.topology.specs.Nearby.{neighbour_numbers}
use Rattle.topology.proofs.nearby.is_near.Given as goal

abbrev pub invariant-loop-one : goal.invariant-loop-one
invariant-loop-one l = is_in l.device (neighbour_numbers (drop l.one-index l.one-items)) ≡ is_in l.device (neighbour_numbers l.near.items)
