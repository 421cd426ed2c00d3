use Rattle.std.proofs.Common.{ℕ, Bool, rules, of_calls, nat_lt}
use Rattle.std.proofs.lemmas.Fn.{always_returns_same}
use Rattle.fc_values.proofs.Lists.{point_is}
use Rattle.fc_nodes.proofs.Counted.{before_parted}
use Rattle.fc_nodes.proofs.uses.before.Goals as goal

pub returns : goal.returns
returns c =
    let p : ℕ → Bool = λ n. nat_lt n c.args.place in
    let point = c.partition_point.ensures.partitioned p (always_returns_same _ _ _ (λ a r f k. search (rules, of_calls))) (before_parted c.args.place c.args.places.now c.requires) in
    point_is p c.args.places.now c.partition_point.result c.partition_point.ensures.bound point
