use Rattle.change_bounds.specs.Tables.{AreInputsSaid}
use Rattle.change_bounds.proofs.Lines.{said_to}
use Rattle.change_bounds.proofs.inputs.inputs_said.Given as goal

abbrev pub invariant-loop-line : goal.invariant-loop-line
invariant-loop-line l = AreInputsSaid l.network (said_to l.lines l.line-index) l.table
