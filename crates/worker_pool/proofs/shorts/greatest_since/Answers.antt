use Rattle.std.proofs.Common.{◌∙◌, ap, drop, max, subst, sym}
use Rattle.firing_core.specs.Entries.{entries_of}
use Rattle.worker_pool.specs.Rounding.{IsGreatest}
use Rattle.worker_pool.proofs.OneByOne.{greatest_first}
use Rattle.worker_pool.proofs.shorts.greatest_since.Goals as goal

pub returns : goal.returns
returns c =
    let n = c.args.book.now.core.net in
    let part = drop c.args.front (entries_of c.args.book.now.log) in
    subst (IsGreatest n part) (sym (c.max.ensures ∙ ap (λ k. max k 1) c.begun_since.ensures)) (greatest_first n part c.device_count-count.ensures.network c.requires.ordered)
