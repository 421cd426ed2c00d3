use Rattle.std.proofs.Common.{map, rules}
use Rattle.fc_values.specs.Types.{type_of}
use Rattle.fc_values.specs.BuiltinTypes.{has_field}
use Rattle.fc_types.proofs.Arities.{not_one}
use Rattle.fc_types.proofs.builtins.first_part.Goals as goal
use Rattle.fc_types.proofs.builtins.first_part.Goals.{in_default-via-then-args-lt1, in_default-via-else-args-lt1+else-args-lt2}

pub returns-in_default : goal.returns-in_default
returns-in_default c =
    elim c.in_default.branch [
      | in_default-via-then-args-lt1 w ↦ not_one (λ s t. s) (has_field (map type_of c.args.args.now)) c.args.args.now (λ l. search rules)
      | in_default-via-else-args-lt1+else-args-lt2 w ↦ not_one (λ s t. s) (has_field (map type_of c.args.args.now)) c.args.args.now (λ l. search rules)
    ]
