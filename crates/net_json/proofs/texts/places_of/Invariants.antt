use Rattle.std.proofs.Common.{◌≡◌, ◌++◌, drop}
use Rattle.net_json.specs.Placing.{node_places}
use Rattle.net_json.proofs.texts.places_of.Given as goal

abbrev pub invariant-loop-place : goal.invariant-loop-place
invariant-loop-place l = l.places.items ++ node_places (drop l.place l.program.nodes) l.place ≡ node_places l.program.nodes 0
