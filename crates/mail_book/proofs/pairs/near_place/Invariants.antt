use Rattle.std.proofs.Common.{◌≡◌, drop}
use Rattle.fc_values.specs.Fields.{is_in}
use Rattle.topology.specs.Nearby.{neighbour_numbers}
use Rattle.mail_book.proofs.pairs.near_place.Given as goal

abbrev pub invariant-loop-at : goal.invariant-loop-at
invariant-loop-at l = is_in l.device (neighbour_numbers l.near) ≡ is_in l.device (neighbour_numbers (drop l.at l.near))
