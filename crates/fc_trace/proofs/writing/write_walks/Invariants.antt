use Rattle.report.proofs.WrittenSoFar.{Written}
use Rattle.fc_trace.proofs.WalkTexts.{claim_text}
use Rattle.fc_trace.proofs.writing.write_walks.Given as goal

abbrev pub invariant-loop-one : goal.invariant-loop-one
invariant-loop-one l = Written claim_text l.claim l.initial.out.items l.out.items l.one-index
