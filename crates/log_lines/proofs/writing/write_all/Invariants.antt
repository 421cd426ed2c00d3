use Rattle.report.proofs.WrittenSoFar.{Written}
use Rattle.log_lines.proofs.WrittenLogs.{spaced}
use Rattle.log_lines.proofs.writing.write_all.Given as goal

abbrev pub invariant-loop-value : goal.invariant-loop-value
invariant-loop-value l = Written spaced l.list l.initial.out.items l.out.items l.value-index
