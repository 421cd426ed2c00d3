use Rattle.std.proofs.Common.{◌≡◌, []}
use Rattle.std.specs.Prelude.{replicate}
use Rattle.fc_nodes.specs.Occurrences.{lists_of}
use Rattle.fc_nodes.proofs.uses.no_uses.Given as goal

abbrev pub invariant-loop : goal.invariant-loop
invariant-loop l = lists_of l.uses.items ≡ replicate l.counter []
