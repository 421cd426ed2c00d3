use Rattle.report.proofs.WrittenSoFar.{Written}
use Rattle.log_lines.proofs.WrittenLogs.{kept_lines}
use Rattle.log_lines.proofs.writing.write_kept.Given as goal

abbrev pub invariant-loop-slot : goal.invariant-loop-slot
invariant-loop-slot l = Written kept_lines l.slots l.initial.out.items l.out.items l.slot-index
