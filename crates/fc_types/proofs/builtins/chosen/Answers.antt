use Rattle.std.proofs.Common.{map, rules}
use Rattle.fc_values.specs.Types.{type_of}
use Rattle.fc_values.specs.BuiltinTypes.{has_field}
use Rattle.fc_types.proofs.Arities.{not_three}
use Rattle.fc_types.proofs.builtins.chosen.Goals as goal
use Rattle.fc_types.proofs.builtins.chosen.Goals.{in_default-via-then-args-lt3, in_default-via-else-args-lt3+else-args-lt4}

pub returns-in_default : goal.returns-in_default
returns-in_default c =
    elim c.in_default.branch [
      | in_default-via-then-args-lt3 w ↦ not_three (has_field (map type_of c.args.args.now)) c.args.args.now (λ l. search rules)
      | in_default-via-else-args-lt3+else-args-lt4 w ↦ not_three (has_field (map type_of c.args.args.now)) c.args.args.now (λ l. search rules)
    ]
