use Rattle.fc_nodes.specs.Program.{unfolding_of}
use Rattle.firing_core.specs.Rooms.{IsRoom}
use Rattle.worker_pool.specs.Working.{Worked}
use Rattle.worker_pool.proofs.workers.work.Given as goal

abbrev pub invariant-firings : goal.invariant-firings
invariant-firings g l = record {
  worked : Worked l.crew.shared l.fn.pass l.pass;
  room : IsRoom (unfolding_of l.crew.shared.opening.program) l.room;
}

abbrev pub decreases-firings : goal.decreases-firings
decreases-firings g l = l.pass.left
