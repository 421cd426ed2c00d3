use Rattle.std.proofs.Common.{◌≤◌}
use Rattle.round_count.proofs.Logs.{Scanned}
use Rattle.round_count.proofs.counting.after_last_edit.Given as goal

abbrev pub invariant-loop-at : goal.invariant-loop-at
invariant-loop-at l = record {
  within : l.start ≤ l.at;
  scanned : Scanned l.log l.at l.start;
}
