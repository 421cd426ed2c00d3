use Rattle.std.proofs.Common.{◌≡◌, take, map}
use Rattle.topology.specs.Nearby.{items_of}
use Rattle.topology.proofs.copies.copy_nearby.Given as goal

abbrev pub invariant-loop-one : goal.invariant-loop-one
invariant-loop-one l = map items_of l.copies.items ≡ map items_of (take l.one-index l.near)
