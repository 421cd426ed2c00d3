use Rattle.bound_rounds.specs.Tables.{AllMarked}
use Rattle.bound_rounds.proofs.rounds.mark_due.Given as goal

abbrev pub invariant-loop-place : goal.invariant-loop-place
invariant-loop-place l = AllMarked l.envelope l.changed l.place l.due
