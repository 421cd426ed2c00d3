use Rattle.fc_values.specs.Types.{leaves, local_type_of}
use Rattle.value_columns.proofs.locals.+value_at.Given as goal

abbrev pub decreases-value_at : goal.decreases-value_at
decreases-value_at l = leaves (local_type_of l.ty.now)
