use Rattle.std.proofs.Common.{◌≡◌, ℕ, map, nat_lt, slice_get, Some, if◌then◌else◌}
use Rattle.fc_values.specs.Types.{Input, input_of}
use Rattle.changes.specs.Changes.{JoinChange}
use Rattle.change_bounds.specs.Bounds.{said_bound}
use Rattle.change_bounds.specs.Tables.{bound_at, widened_by}
use Rattle.change_bounds.proofs.inputs.say_join.Given as goal

abbrev pub invariant-loop-i : goal.invariant-loop-i
invariant-loop-i l = (d i : ℕ) (x : Input) → slice_get (map input_of l.inputs) i ≡ Some x → bound_at l.table d i
    ≡ (if nat_lt i l.i then widened_by (bound_at l.initial.table d i) (said_bound d i x.type (JoinChange l.device l.values))
    else bound_at l.initial.table d i)
