use Rattle.firing_core.proofs.Replaying.{ReplayedTo}
use Rattle.firing_core.proofs.books.replay.Given as goal

abbrev pub invariant-loop-index : goal.invariant-loop-index
invariant-loop-index l = record { read : ReplayedTo l.fn.program.value l.fn.start l.fn.log.items l.index l.core }
