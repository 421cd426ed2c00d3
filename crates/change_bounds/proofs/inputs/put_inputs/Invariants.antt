use Rattle.std.proofs.Common.{◌≡◌, ℕ, map, take, nat_eq, if◌then◌else◌}
use Rattle.std.specs.Prelude.{option_map, slice_get}
use Rattle.std.specs.Option.{option_or}
use Rattle.fc_values.specs.Values.{local_of}
use Rattle.value_bounds.specs.BoundValues.{exactly}
use Rattle.change_bounds.specs.Tables.{bound_at}
use Rattle.change_bounds.proofs.inputs.put_inputs.Given as goal

abbrev pub invariant-loop-i : goal.invariant-loop-i
invariant-loop-i l = (d i : ℕ) → bound_at l.table d i ≡ (if nat_eq d l.device
    then option_or (option_map exactly (slice_get (map local_of (take l.i l.values)) i)) (bound_at l.initial.table d i)
    else bound_at l.initial.table d i)
