use Rattle.worker_pool.proofs.OneByOne.{ShortsTo}
use Rattle.worker_pool.proofs.shorts.fire_short.Given as goal

abbrev pub invariant-loop-place : goal.invariant-loop-place
invariant-loop-place l = record { shorts : ShortsTo l.front l.rounds l.fn.book l.book l.place }
