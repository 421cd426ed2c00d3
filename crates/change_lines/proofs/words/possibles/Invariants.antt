use Rattle.std.proofs.Common.{drop}
use Rattle.edit_commands.specs.Code.{texts}
use Rattle.change_lines.proofs.Values.{ReadBehind}
use Rattle.change_lines.proofs.words.possibles.Given as goal

abbrev pub invariant-loop-word : goal.invariant-loop-word
invariant-loop-word l = ReadBehind (texts l.words) l.values.items (texts (drop l.word-index l.words))
