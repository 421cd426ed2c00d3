use Rattle.std.proofs.Common.{◌≡◌, map}
use Rattle.fc_values.specs.Values.{local_of}
use Rattle.value_trees.specs.KeptItems.{kept_of, plain_item}
use Rattle.value_trees.proofs.items.plain_items.Given as goal

abbrev pub invariant-loop-value : goal.invariant-loop-value
invariant-loop-value l = map kept_of l.items.items ≡ map plain_item (map local_of l.yielded)
