use Rattle.std.proofs.Common.{length, ◌-◌, ◌+◌, ◌≤◌}
use Rattle.export_table.specs.Agendas.{EndedBefore}
use Rattle.export_table.proofs.agenda.first_behind.Given as goal

abbrev pub invariant-loop-at : goal.invariant-loop-at
invariant-loop-at l = EndedBefore (l.round + 1) l.fn.rows l.at × (l.at ≤ length l.fn.rows)

abbrev pub decreases-loop-at : goal.decreases-loop-at
decreases-loop-at l = length l.fn.rows - l.at
