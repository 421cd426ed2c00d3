use Rattle.std.proofs.Common.{◌≡◌, [], map}
use Rattle.std.specs.Prelude.{replicate}
use Rattle.envelopes.specs.Code.{neighbours_of}
use Rattle.envelopes.proofs.places.no_neighbours.Given as goal

abbrev pub invariant-loop : goal.invariant-loop
invariant-loop l = map neighbours_of l.lists.items ≡ replicate l.counter []
