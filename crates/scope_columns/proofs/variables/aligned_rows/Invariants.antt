use Rattle.std.proofs.Common.{◌≡◌, ◌++◌, drop}
use Rattle.alignment.specs.References.{numbers_in}
use Rattle.scope_columns.specs.Scopes.{devices_in}
use Rattle.scope_columns.specs.Words.{kept_rows, stays}
use Rattle.scope_columns.proofs.variables.aligned_rows.Given as goal

abbrev pub invariant-loop-row : goal.invariant-loop-row
invariant-loop-row l =
    l.rows.items ++ kept_rows (stays l.device (numbers_in l.inner)) l.row (drop l.row (devices_in l.device l.env))
    ≡ kept_rows (stays l.device (numbers_in l.inner)) 0 (devices_in l.device l.env)
