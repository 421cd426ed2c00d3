use Rattle.std.proofs.Common.{map, drop}
use Rattle.fc_values.specs.Values.{local_of}
use Rattle.edit_commands.specs.Code.{texts}
use Rattle.edit_commands.proofs.Behind.{ReadBehind}
use Rattle.edit_commands.proofs.values.read_values.Given as goal

abbrev pub invariant-loop-word : goal.invariant-loop-word
invariant-loop-word l = ReadBehind (texts l.words) (map local_of l.values.items) (texts (drop l.word-index l.words))
