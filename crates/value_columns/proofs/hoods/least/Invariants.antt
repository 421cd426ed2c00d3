use Rattle.std.proofs.Common.{◌≡◌, ◌-◌, ◌<◌, ◌≤◌}
use Rattle.fc_values.specs.Types.{local_type_of}
use Rattle.fc_values.specs.Builtins.{least_of}
use Rattle.value_columns.specs.LoneRows.{Stands, value_in}
use Rattle.value_columns.specs.OtherRows.{rows_in}
use Rattle.value_columns.proofs.hoods.least.Given as goal

abbrev pub invariant-loop-row : goal.invariant-loop-row
invariant-loop-row l = record {
  stands : Stands l.words (local_type_of l.ty) l.best;
  behind : (l.field.first ≤ l.best.first) × (0 < l.best.step);
  least : least_of (value_in l.words (local_type_of l.ty) l.best)
      (rows_in l.words (local_type_of l.ty) l.field.step l.field.first l.row (l.to - l.row))
      ≡ least_of (value_in l.words (local_type_of l.ty) l.fn.start)
      (rows_in l.words (local_type_of l.ty) l.field.step l.field.first l.fn.from (l.to - l.fn.from));
}
