use Rattle.std.proofs.Common.{[]}
use Rattle.report.proofs.WrittenSoFar.{Written}
use Rattle.report.proofs.ListTexts.{fields_of}
use Rattle.report.proofs.lines.field_lines.Given as goal

abbrev pub invariant-loop-device : goal.invariant-loop-device
invariant-loop-device l = Written fields_of l.f [] l.lines.items l.device-index
