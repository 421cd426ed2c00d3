use Rattle.std.proofs.Common.{◌≡◌, ◌≤◌, ◌-◌, length}
use Rattle.fc_nodes.specs.Program.{unfolding_of}
use Rattle.firing_core.specs.Stretches.{RanRounds}
use Rattle.worker_pool.specs.Working.{AreRooms}
use Rattle.worker_pool.proofs.rounds.run_in.Given as goal

abbrev pub invariant-loop-left : goal.invariant-loop-left
invariant-loop-left g l = record {
  within : l.left ≤ l.fn.rounds;
  ran : RanRounds l.fn.book (l.fn.rounds - l.left) l.book;
  rooms : AreRooms (unfolding_of l.fn.book.program) l.rooms;
  many : length l.rooms ≡ length l.fn.rooms;
}

abbrev pub decreases-loop-left : goal.decreases-loop-left
decreases-loop-left g l = l.left
