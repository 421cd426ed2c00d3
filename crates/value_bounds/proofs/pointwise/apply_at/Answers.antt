use Rattle.std.proofs.Common.{rules, arith, ◌<◌, ◌≤◌, length}
use Rattle.value_bounds.proofs.Counts.{too_few, too_many}
use Rattle.value_bounds.proofs.pointwise.apply_at.Goals as goal
use Rattle.value_bounds.proofs.pointwise.apply_at.Goals.{in_default-via-then-args-lt1}
use Rattle.value_bounds.proofs.pointwise.apply_at.Goals.{in_default-via-else-args-lt1+else-args-lt2+else-args-lt3+else-args-lt4}

pub returns-in_default : goal.returns-in_default
returns-in_default c =
    elim c.in_default.branch [
      | in_default-via-then-args-lt1 w ↦
          let few : length c.args.args.now < 1 = search (rules, arith) in
          too_few c.args.builtin c.args.ceiling c.args.place.device c.args.place.number c.args.args.now few
      | in_default-via-else-args-lt1+else-args-lt2+else-args-lt3+else-args-lt4 w ↦
          let many : 4 ≤ length c.args.args.now = search (rules, arith) in
          too_many c.args.builtin c.args.ceiling c.args.place.device c.args.place.number c.args.args.now many
    ]
