use Rattle.firing_core.proofs.Settling.{SettledTo}
use Rattle.firing_core.proofs.books.Book.settle.Given as goal

abbrev pub invariant-loop-place : goal.invariant-loop-place
invariant-loop-place l = record { settled : SettledTo l.fn.self l.self l.place }
