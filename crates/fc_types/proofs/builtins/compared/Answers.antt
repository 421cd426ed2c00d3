use Rattle.std.proofs.Common.{map, rules}
use Rattle.fc_values.specs.Types.{BoolType, type_of}
use Rattle.fc_values.specs.BuiltinTypes.{has_field}
use Rattle.fc_types.proofs.Arities.{not_two}
use Rattle.fc_types.proofs.builtins.compared.Goals as goal
use Rattle.fc_types.proofs.builtins.compared.Goals.{in_default-via-then-args-lt2, in_default-via-else-args-lt2+else-args-lt3}

pub returns-in_default : goal.returns-in_default
returns-in_default c =
    elim c.in_default.branch [
      | in_default-via-then-args-lt2 w ↦ not_two (λ t. BoolType) (has_field (map type_of c.args.args.now)) c.args.args.now (λ l. search rules)
      | in_default-via-else-args-lt2+else-args-lt3 w ↦ not_two (λ t. BoolType) (has_field (map type_of c.args.args.now)) c.args.args.now (λ l. search rules)
    ]
