use Rattle.std.proofs.Common.{length}
use Rattle.edit_commands.proofs.CutLines.{AreCounted}
use Rattle.edit_commands.proofs.lines.count_lines.Given as goal

abbrev pub invariant-lines : goal.invariant-lines
invariant-lines l = AreCounted l.text l.count l.rest

abbrev pub decreases-lines : goal.decreases-lines
decreases-lines l = length l.rest
