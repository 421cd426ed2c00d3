use Rattle.fc_values.specs.Types.{leaves, local_type_of}
use Rattle.value_columns.proofs.order.+compare_rows.Given as goal

abbrev pub decreases-compare_rows : goal.decreases-compare_rows
decreases-compare_rows l = leaves (local_type_of l.ty.now)
