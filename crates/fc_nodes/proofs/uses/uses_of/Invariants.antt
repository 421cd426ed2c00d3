use Rattle.fc_nodes.specs.Occurrences.{AreUsesBefore, lists_of}
use Rattle.fc_nodes.proofs.uses.uses_of.Given as goal

abbrev pub invariant-loop-place : goal.invariant-loop-place
invariant-loop-place l = AreUsesBefore l.nodes l.place (lists_of l.uses.items)
