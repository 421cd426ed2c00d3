use Rattle.std.proofs.Common.{rules}
use Rattle.fc_types.proofs.Arities.{no_pair}
use Rattle.fc_types.proofs.builtins.pair.Goals as goal
use Rattle.fc_types.proofs.builtins.pair.Goals.{in_default-via-then-args-lt2, in_default-via-else-args-lt2+else-args-lt3}

pub returns-in_default : goal.returns-in_default
returns-in_default c =
    elim c.in_default.branch [
      | in_default-via-then-args-lt2 w ↦ no_pair c.args.args.now (λ l. search rules)
      | in_default-via-else-args-lt2+else-args-lt3 w ↦ no_pair c.args.args.now (λ l. search rules)
    ]
