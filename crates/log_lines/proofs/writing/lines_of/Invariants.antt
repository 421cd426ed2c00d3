use Rattle.std.proofs.Common.{codes, map}
use Rattle.fc_values.specs.Types.{input_of}
use Rattle.report.proofs.WrittenSoFar.{Written}
use Rattle.log_lines.proofs.WrittenLogs.{lines_of}
use Rattle.log_lines.proofs.writing.lines_of.Given as goal

abbrev pub invariant-loop-entry : goal.invariant-loop-entry
invariant-loop-entry l = Written (lines_of (map input_of l.inputs)) l.log (codes "log\n") l.lines.items l.entry-index
