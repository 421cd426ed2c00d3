use Rattle.std.proofs.Common.{◌<◌, ◌≤◌, ℕ, length}
use Rattle.export_table.specs.Agendas.{EndedBefore, EndedExactly, row_at}
use Rattle.export_table.proofs.agenda.least_ended.Given as goal

abbrev pub invariant-loop-row : goal.invariant-loop-row
invariant-loop-row l = record {
  each : EndedBefore l.least l.fn.rows l.row-index;
  low : l.least ≤ l.most;
  some : l.least < l.most → (i : ℕ) × (i < length l.fn.rows) × EndedExactly l.least (row_at l.fn.rows i);
}
