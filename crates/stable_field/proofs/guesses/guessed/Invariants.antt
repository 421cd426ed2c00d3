use Rattle.std.proofs.Common.{◌≡◌, length}
use Rattle.fc_nodes.specs.Program.{unfolding_of}
use Rattle.firing_core.specs.CoreViews.{AllExports}
use Rattle.stable_field.proofs.guesses.guessed.Given as goal

abbrev pub invariant-loop-place : goal.invariant-loop-place
invariant-loop-place l = record {
  many : length l.table.items ≡ l.place;
  exports : AllExports (unfolding_of l.program) l.table.items;
}
