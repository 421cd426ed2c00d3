use Rattle.std.proofs.Common.{◌≡◌, max, drop}
use Rattle.bound_texts.specs.BoundTexts.{most_rounds}
use Rattle.bound_texts.specs.References.{lines_in}
use Rattle.bound_texts.proofs.lines.most_rounds.Given as goal

abbrev pub invariant-loop-line : goal.invariant-loop-line
invariant-loop-line l = max l.most (most_rounds (lines_in (drop l.line-index l.lines))) ≡ most_rounds (lines_in l.lines)
