use Rattle.std.proofs.Common.{◌≡◌, IfSome}
use Rattle.export_table.specs.Passing.{IsPassOf, on_log}
use Rattle.export_table.specs.Turns.{CanEnd}
use Rattle.network_tests.proofs.tables.turns.Given as goal

abbrev pub invariant-turns : goal.invariant-turns
invariant-turns g l = record {
  own : IsPassOf l.table l.pass × IsPassOf l.table l.slow;
  same : (l.pass.name ≡ l.fn.pass.name) × (l.pass.out ≡ l.fn.pass.out);
  slow : (l.slow.name ≡ l.fn.slow.name) × (l.slow.out ≡ l.fn.slow.out);
  may_end : IfSome l.held (CanEnd l.table.opening (on_log l.slow));
}
