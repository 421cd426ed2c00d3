use Rattle.std.proofs.Common.{◌≤◌}
use Rattle.fc_types.specs.Views.{known_of}
use Rattle.unfold.specs.Writing.{SameCall}
use Rattle.unfold.proofs.names.last_call.Given as goal

abbrev pub invariant-loop-number : goal.invariant-loop-number
invariant-loop-number l = record {
  same : SameCall (known_of l.known) l.visible l.name.text.items l.seen l.last.text.items;
  fewer : l.seen ≤ l.visible;
}

abbrev pub decreases-loop-number : goal.decreases-loop-number
decreases-loop-number l = l.seen
