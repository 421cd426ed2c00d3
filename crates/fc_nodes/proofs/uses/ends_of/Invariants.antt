use Rattle.std.proofs.Common.{◌≤◌, length}
use Rattle.fc_nodes.specs.Occurrences.{AreEndsFrom}
use Rattle.fc_nodes.proofs.uses.ends_of.Given as goal

abbrev pub invariant-loop-left : goal.invariant-loop-left
invariant-loop-left l = record {
  within : l.left ≤ length l.nodes;
  done : AreEndsFrom l.nodes l.left l.ends.items;
}

abbrev pub decreases-loop-left : goal.decreases-loop-left
decreases-loop-left l = l.left
