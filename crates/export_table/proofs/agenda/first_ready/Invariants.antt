use Rattle.std.proofs.Common.{length, ◌-◌, ◌≤◌}
use Rattle.export_table.specs.Agendas.{NoneReady}
use Rattle.export_table.proofs.agenda.first_ready.Given as goal

abbrev pub invariant-loop-at : goal.invariant-loop-at
invariant-loop-at l = NoneReady l.round l.fn.rows l.at × (l.at ≤ length l.fn.rows)

abbrev pub decreases-loop-at : goal.decreases-loop-at
decreases-loop-at l = length l.fn.rows - l.at
