use Rattle.value_bounds.proofs.InOrder.{entry_here}
use Rattle.value_bounds.proofs.pointwise.entry_bound.Goals as goal

pub returns-then-entry-place : goal.returns-then-entry-place
returns-then-entry-place c =
    entry_here c.args.entries.now c.args.place.position c.args.place.number c.index-entries-place.result
    (c.requires.order c.if-place.true) c.if-place-entries.true c.index-entries-place.is c.if-entry-place.true
