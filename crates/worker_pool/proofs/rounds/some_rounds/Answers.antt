use Rattle.std.proofs.Common.{ap, length, arith}
use Rattle.worker_pool.proofs.Stretching.{ordered_together, some_together, ran_some}
use Rattle.worker_pool.proofs.rounds.some_rounds.Goals as goal

pub complete-requires-clause-ordered : goal.complete-requires-clause-ordered
complete-requires-clause-ordered g c =
    ordered_together (length c.log-front.result.now) c.args.most c.args.book c.in_ok-book.book c.in_ok-book.ensures.fired (ap length c.log-front.ensures.value)

pub overflow_cast-result : goal.overflow_cast-result
overflow_cast-result g c =
    let s = some_together (length c.log-front.result.now) c.args.most c.in_ok-ran.ran c.args.book c.in_ok-book.book c.in_ok-book.ensures.fired (ap length c.log-front.ensures.value) c.requires.some c.in_ok-ran.ensures.greatest in
    omega (arith, s)

pub returns-clause-ran : goal.returns-clause-ran
returns-clause-ran g c =
    ran_some (length c.log-front.result.now) c.args.most c.in_ok-ran.ran c.args.book c.in_ok-book.book c.complete.new.book c.in_ok-book.ensures.fired (ap length c.log-front.ensures.value)
    c.in_ok-ran.ensures.greatest.some c.in_ok-ran.ensures.ok

pub returns-clause-some : goal.returns-clause-some
returns-clause-some g c =
    some_together (length c.log-front.result.now) c.args.most c.in_ok-ran.ran c.args.book c.in_ok-book.book c.in_ok-book.ensures.fired (ap length c.log-front.ensures.value) c.requires.some c.in_ok-ran.ensures.greatest
