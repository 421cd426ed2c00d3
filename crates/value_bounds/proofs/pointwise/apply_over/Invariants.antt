use Rattle.std.proofs.Common.{◌≡◌, take}
use Rattle.value_bounds.specs.BoundBuiltins.{bounds_at, entries_over, local_bound, maybes_in}
use Rattle.value_bounds.specs.References.{lent_bounds_in, entries_in}
use Rattle.value_bounds.proofs.pointwise.apply_over.Given as goal

abbrev pub invariant-loop-position : goal.invariant-loop-position
invariant-loop-position l =
    entries_in l.entries.items
    ≡ entries_over (λ k. local_bound l.builtin l.ceiling (bounds_at l.device k (lent_bounds_in l.args)))
    (maybes_in (entries_in (take l.position l.field.entries.items)))
