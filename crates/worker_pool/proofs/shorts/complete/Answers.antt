use Rattle.std.proofs.Common.{◌≤◌, ◌-◌, ap, drop, subst}
use Rattle.firing_core.specs.Entries.{entries_of}
use Rattle.firing_core.specs.CoreViews.{core_of}
use Rattle.firing_core.specs.Books.{in_flight}
use Rattle.worker_pool.proofs.OneByOne.{ordered_settled, greatest_settled, completes_settled, last_begins, complete_already}
use Rattle.worker_pool.proofs.shorts.complete.Goals as goal

pub greatest_since-rounds-requires-clause-ordered : goal.greatest_since-rounds-requires-clause-ordered
greatest_since-rounds-requires-clause-ordered c =
    ordered_settled c.args.front c.args.book.now c.settle.new.self (in_flight (core_of c.args.book.now.core)) c.requires.front c.in_ok-settle.ensures.ok c.requires.ordered

pub fire_short-requires-clause-ordered : goal.fire_short-requires-clause-ordered
fire_short-requires-clause-ordered c =
    ordered_settled c.args.front c.args.book.now c.settle.new.self (in_flight (core_of c.args.book.now.core)) c.requires.front c.in_ok-settle.ensures.ok c.requires.ordered

pub returns-in_ok-fire_short-clause-ok : goal.returns-in_ok-fire_short-clause-ok
returns-in_ok-fire_short-clause-ok c =
    completes_settled c.args.front c.greatest_since-rounds.result c.args.book.now c.settle.new.self c.fire_short.new.book (in_flight (core_of c.args.book.now.core)) c.requires.front c.in_ok-settle.ensures.ok
    c.in_ok-fire_short.ensures.ok

pub returns-in_ok-fire_short-clause-greatest : goal.returns-in_ok-fire_short-clause-greatest
returns-in_ok-fire_short-clause-greatest c =
    greatest_settled c.args.front c.greatest_since-rounds.result c.args.book.now c.settle.new.self (in_flight (core_of c.args.book.now.core)) c.requires.front c.in_ok-settle.ensures.ok
    c.greatest_since-rounds.ensures

pub returns-else-begun_since-rounds-clause-ok : goal.returns-else-begun_since-rounds-clause-ok
returns-else-begun_since-rounds-clause-ok c =
    let mid = c.settle.new.self in
    let rounds = c.greatest_since-rounds.result in
    let ds = in_flight (core_of c.args.book.now.core) in
    let part = drop c.args.front (entries_of mid.log) in
    let ordered = ordered_settled c.args.front c.args.book.now mid ds c.requires.front c.in_ok-settle.ensures.ok c.requires.ordered in
    let last = ap (λ k. k - 1) c.device_count-last.ensures.count in
    completes_settled c.args.front rounds c.args.book.now mid mid ds c.requires.front c.in_ok-settle.ensures.ok
    (complete_already c.args.front rounds mid c.in_ok-settle.ensures.rests
    (last_begins mid.core.net part rounds (c.device_count-last.result - 1) c.device_count-last.ensures.network ordered c.greatest_since-rounds.ensures last
    (subst (λ k. rounds ≤ k) c.begun_since.ensures c.if-begun_since-rounds.false)))

pub returns-else-begun_since-rounds-clause-greatest : goal.returns-else-begun_since-rounds-clause-greatest
returns-else-begun_since-rounds-clause-greatest c =
    greatest_settled c.args.front c.greatest_since-rounds.result c.args.book.now c.settle.new.self (in_flight (core_of c.args.book.now.core)) c.requires.front c.in_ok-settle.ensures.ok
    c.greatest_since-rounds.ensures
