use Rattle.std.proofs.Common.{◌≡◌, length}
use Rattle.fc_nodes.specs.Program.{Unfolding}
use Rattle.worker_pool.specs.Working.{AreRooms}
use Rattle.worker_pool.proofs.rounds.no_rooms.Given as goal

abbrev pub invariant-loop : goal.invariant-loop
invariant-loop l = record {
  many : length l.rooms.items ≡ l.counter;
  rooms : (U : Unfolding) → AreRooms U l.rooms.items;
}
