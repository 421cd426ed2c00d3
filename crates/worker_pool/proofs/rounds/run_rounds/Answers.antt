use Rattle.std.proofs.Common.{sym, subst}
use Rattle.fc_nodes.specs.Program.{unfolding_of}
use Rattle.worker_pool.specs.Working.{AreRooms}
use Rattle.worker_pool.proofs.rounds.run_rounds.Goals as goal

pub run_in-requires-clause-rooms : goal.run_in-requires-clause-rooms
run_in-requires-clause-rooms g c κs within =
    let U = unfolding_of c.args.book.program in
    subst (AreRooms U) {y = c.deref_mut.result.now} (sym c.deref_mut.ensures.value) (c.in_ok-rooms.ensures.rooms U)
