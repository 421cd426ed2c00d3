use Rattle.std.proofs.Common.{◌≡◌, ◌<◌, ◌+◌, min, get_or, refl}
use Rattle.walks.specs.Tables.{lowered}
use Rattle.walks.proofs.settles.take_step.Goals as goal

pub returns-in_ok-push : goal.returns-in_ok-push
returns-in_ok-push c =
    let s = c.args.step.now in
    let e : c.stopped-value.result ≡ min (get_or c.args.values.now s.from 0 + s.cost) c.args.costs.now.ceiling = c.stopped-value.ensures in
    let l : c.stopped-value.result < get_or c.args.values.now s.to 0 = c.if-value-values.true in
    lowered c.stopped-value.result e l refl c.in_ok-push.ensures.permutation
