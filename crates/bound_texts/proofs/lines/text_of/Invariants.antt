use Rattle.report.proofs.WrittenSoFar.{Written}
use Rattle.bound_texts.specs.BoundTexts.{most_rounds, within_text}
use Rattle.bound_texts.specs.References.{lines_in}
use Rattle.bound_texts.proofs.LineTexts.{devices_of}
use Rattle.bound_texts.proofs.lines.text_of.Given as goal

abbrev pub invariant-loop-line : goal.invariant-loop-line
invariant-loop-line l =
    Written devices_of l.lines (within_text (most_rounds (lines_in l.lines))) l.text.items l.line-index
