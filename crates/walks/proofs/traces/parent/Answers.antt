use Rattle.std.proofs.Common.{get_or, sym, subst}
use Rattle.walks.specs.Walks.{costs_of, IsLeastCost}
use Rattle.walks.specs.Tables.{itself, neighbour}
use Rattle.walks.proofs.Parents.{parent_none}
use Rattle.walks.proofs.traces.parent.Goals as goal

pub bounds-values-device : goal.bounds-values-device
bounds-values-device c = (c.requires.values c.args.device (c.args.start, c.requires.start)).0

pub returns-then-values-device : goal.returns-then-values-device
returns-then-values-device c =
    itself c.args.start c.requires.start (subst (λ x. IsLeastCost (costs_of c.args.costs.now) c.args.device x) c.if-values-device.true (c.requires.values c.args.device (c.args.start, c.requires.start)).1)

pub returns-in-Some : goal.returns-in-Some
returns-in-Some c =
    neighbour c.args.start (get_or c.args.values.now c.args.device 0) c.in-Some.neighbour c.requires.start (c.requires.values c.args.device (c.args.start, c.requires.start)).1
    (λ e. c.if-values-device.false (sym e)) c.in-Some.ensures.leads c.in-Some.ensures.least

pub returns-in-None : goal.returns-in-None
returns-in-None c =
    absurd (parent_none (costs_of c.args.costs.now) c.requires.costs c.args.device c.args.start (get_or c.args.values.now c.args.device 0) c.requires.start
    (c.requires.values c.args.device (c.args.start, c.requires.start)).1 (λ e. c.if-values-device.false (sym e)) c.in-None.ensures.none)
