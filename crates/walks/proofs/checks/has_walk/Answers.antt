use Rattle.std.proofs.Common.{sym, subst}
use Rattle.std.proofs.lemmas.Bool.{eqb-false}
use Rattle.walks.specs.Walks.{costs_of, WalkCosts}
use Rattle.walks.proofs.Costing.{cost_same}
use Rattle.walks.proofs.checks.has_walk.Goals as goal

pub returns-then-end-one-clause-not : goal.returns-then-end-one-clause-not
returns-then-end-one-clause-not c = λ f h.
    let C = costs_of c.args.costs.now in
    let xs = c.args.one.now.walk.items in
    let k = cost_same C c.requires xs c.in-Some.end c.in-Some.cost c.args.one.now.device c.args.one.now.value
    (subst (λ ys. WalkCosts C ys c.in-Some.end c.in-Some.cost) c.deref.ensures.value c.in-Some.ensures.costs) h in
    eqb-false c.in-Some.cost c.args.one.now.value f k.1

pub returns-else-end-one-clause-not : goal.returns-else-end-one-clause-not
returns-else-end-one-clause-not c = λ f h.
    let C = costs_of c.args.costs.now in
    let xs = c.args.one.now.walk.items in
    let k = cost_same C c.requires xs c.in-Some.end c.in-Some.cost c.args.one.now.device c.args.one.now.value
    (subst (λ ys. WalkCosts C ys c.in-Some.end c.in-Some.cost) c.deref.ensures.value c.in-Some.ensures.costs) h in
    c.if-end-one.false k.0

pub returns-in-None-clause-not : goal.returns-in-None-clause-not
returns-in-None-clause-not c = λ f h.
    let C = costs_of c.args.costs.now in
    c.in-None.ensures.none c.args.one.now.device c.args.one.now.value
    (subst (λ ys. WalkCosts C ys c.args.one.now.device c.args.one.now.value) (sym c.deref.ensures.value) h)
