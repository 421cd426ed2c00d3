use Rattle.report.proofs.WrittenSoFar.{Written}
use Rattle.fc_trace.specs.Texts.{numbers_after}
use Rattle.fc_trace.proofs.writing.write_numbers.Given as goal

abbrev pub invariant-loop-number : goal.invariant-loop-number
invariant-loop-number l = Written numbers_after l.numbers l.initial.out.items l.out.items l.number-index
