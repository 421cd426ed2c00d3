use Rattle.std.proofs.Common.{rules, of_calls, ℕ, nat_lt, arith}
use Rattle.std.proofs.lemmas.Fn.{always_returns_same}
use Rattle.std.proofs.lemmas.List.Sorted.{IsPartitionedBy-ltb}
use Rattle.walks.proofs.Spans.{pairs_rise, not_there}
use Rattle.walks.proofs.lookups.place.Goals as goal
use Rattle.walks.proofs.lookups.place.Goals.{else-at-pairs-via-then-at-pairs+else-pairs-at, else-at-pairs-via-else-at-pairs}

pub returns-else-at-pairs-clause-none : goal.returns-else-at-pairs-clause-none
returns-else-at-pairs-clause-none c =
    let p = λ (x : ℕ × ℕ). nat_lt x.0 c.args.device in
    let parted = IsPartitionedBy-ltb (λ (x : ℕ × ℕ). x.0) c.args.pairs.now c.args.device (pairs_rise c.args.pairs.now c.requires) in
    let point = c.partition_point-at.ensures.partitioned p (always_returns_same _ _ _ (λ a r f k. search (rules, of_calls))) parted in
    not_there c.args.pairs.now c.args.device c.partition_point-at.result c.requires point
    (elim c.else-at-pairs.branch [
      | else-at-pairs-via-then-at-pairs+else-pairs-at w ↦ λ l e. w.if-pairs-at.false e
      | else-at-pairs-via-else-at-pairs w ↦ λ l e. absurd (omega (arith, w.if-at-pairs.false))
    ])
