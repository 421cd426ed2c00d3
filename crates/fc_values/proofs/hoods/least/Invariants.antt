use Rattle.std.proofs.Common.{◌≡◌, drop, map}
use Rattle.fc_values.specs.Values.{local_of}
use Rattle.fc_values.specs.Fields.{entries_of, entry_of}
use Rattle.fc_values.specs.Builtins.{least_of, others}
use Rattle.fc_values.proofs.hoods.least.Given as goal

abbrev pub invariant-loop-other : goal.invariant-loop-other
invariant-loop-other l =
    least_of (local_of l.best) (others l.device (map entry_of (drop l.other-index l.field.entries.items)))
    ≡ least_of (local_of l.local) (others l.device (entries_of l.field))
