use Rattle.std.proofs.Common.{rules, arith}
use Rattle.device_eval.proofs.KidSteps.{few_kids}
use Rattle.device_eval.proofs.builtins.operate.Goals as goal
use Rattle.device_eval.proofs.builtins.operate.Goals.{in_default-via-then-kids-lt1}
use Rattle.device_eval.proofs.builtins.operate.Goals.{in_default-via-else-kids-lt1+else-kids-lt2+else-kids-lt3+else-kids-lt4}

pub unreachable-requires : goal.unreachable-requires
unreachable-requires c =
    let f = few_kids c.args.program.now.nodes c.args.kids.now c.requires.types in
    let a = f.0 in
    let b = f.1 in
    elim c.in_default.branch [
      | in_default-via-then-kids-lt1 w ↦ search (rules, arith, a, b)
      | in_default-via-else-kids-lt1+else-kids-lt2+else-kids-lt3+else-kids-lt4 w ↦ search (rules, arith, a, b)
    ]
