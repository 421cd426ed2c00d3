use Rattle.std.proofs.Common.{◌≡◌, [], map}
use Rattle.std.specs.Prelude.{replicate}
use Rattle.topology.specs.Nearby.{items_of}
use Rattle.topology.proofs.copies.no_nearby.Given as goal

abbrev pub invariant-loop : goal.invariant-loop
invariant-loop l = map items_of l.lists.items ≡ replicate l.counter []
