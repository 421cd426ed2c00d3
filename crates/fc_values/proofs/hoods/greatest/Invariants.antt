use Rattle.std.proofs.Common.{◌≡◌, drop, map}
use Rattle.fc_values.specs.Values.{local_of}
use Rattle.fc_values.specs.Fields.{entries_of, entry_of}
use Rattle.fc_values.specs.Builtins.{greatest_of, others}
use Rattle.fc_values.proofs.hoods.greatest.Given as goal

abbrev pub invariant-loop-other : goal.invariant-loop-other
invariant-loop-other l =
    greatest_of (local_of l.best) (others l.device (map entry_of (drop l.other-index l.field.entries.items)))
    ≡ greatest_of (local_of l.local) (others l.device (entries_of l.field))
