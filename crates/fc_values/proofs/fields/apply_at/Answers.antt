use Rattle.std.proofs.Common.{rules, arith}
use Rattle.fc_values.proofs.Inversions.{few_arguments}
use Rattle.fc_values.proofs.fields.apply_at.Goals as goal
use Rattle.fc_values.proofs.fields.apply_at.Goals.{in_default-via-then-args-lt1, in_default-via-else-args-lt1+else-args-lt2+else-args-lt3+else-args-lt4}

pub unreachable-requires : goal.unreachable-requires
unreachable-requires c =
    let f = few_arguments c.args.builtin c.args.ceiling c.args.position c.args.args.now c.requires.has_value in
    let a = f.0 in
    let b = f.1 in
    elim c.in_default.branch [
      | in_default-via-then-args-lt1 w ↦ search (rules, arith, a, b)
      | in_default-via-else-args-lt1+else-args-lt2+else-args-lt3+else-args-lt4 w ↦ search (rules, arith, a, b)
    ]
