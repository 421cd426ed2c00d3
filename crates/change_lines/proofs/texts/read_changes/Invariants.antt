use Rattle.std.proofs.Common.{length, map}
use Rattle.fc_values.specs.Types.{input_of}
use Rattle.changes.specs.Code.{line_in}
use Rattle.change_lines.proofs.ReadChanges.{IsReadTo}
use Rattle.change_lines.proofs.texts.read_changes.Given as goal

abbrev pub invariant-lines : goal.invariant-lines
invariant-lines l = IsReadTo (map input_of l.inputs) l.text l.number l.rest (map line_in l.lines.items)

abbrev pub decreases-lines : goal.decreases-lines
decreases-lines l = length l.rest
