use Rattle.fc_values.proofs.BuiltinTyped.{builtin_typed}
use Rattle.fc_values.proofs.laws.builtin_has_value.Goals as goal

pub returns : goal.returns
returns c = builtin_typed
