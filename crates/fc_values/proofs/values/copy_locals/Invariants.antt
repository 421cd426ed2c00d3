use Rattle.std.proofs.Common.{◌≡◌, take, map}
use Rattle.fc_values.specs.Values.{local_of}
use Rattle.fc_values.proofs.values.copy_locals.Given as goal

abbrev pub invariant-loop-value : goal.invariant-loop-value
invariant-loop-value l = map local_of l.copies.items ≡ map local_of (take l.value-index l.values)
