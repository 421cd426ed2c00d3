use Rattle.bound_rounds.specs.Tables.{device_at}
use Rattle.bound_rounds.proofs.Standing.{NearSeen}
use Rattle.bound_rounds.proofs.rounds.seats_at.Given as goal

abbrev pub invariant-loop-neighbour : goal.invariant-loop-neighbour
invariant-loop-neighbour l = NearSeen l.envelope l.bounds (device_at l.envelope l.place) l.neighbour-index l.near.items
