use Rattle.std.proofs.Common.{◌≡◌, length}
use Rattle.fc_types.specs.Views.{known_of}
use Rattle.unfold.specs.Views.{AreCapped}
use Rattle.unfold.proofs.counting.body_counts.Given as goal

abbrev pub invariant-loop-function : goal.invariant-loop-function
invariant-loop-function l = record {
  long : length l.counts.items ≡ length l.yielded;
  capped : AreCapped (known_of l.known) l.counts.items;
}
