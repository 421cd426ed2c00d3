use Rattle.std.proofs.Common.{◌+◌, min, get_or, sym, ◌∙◌, ap}
use Rattle.std.proofs.lemmas.Bool.{eqb-true, eqb-false}
use Rattle.walks.specs.Walks.{costs_of}
use Rattle.walks.proofs.Goes.{steps_one}
use Rattle.walks.proofs.Least.{one_least}
use Rattle.walks.proofs.traces.leads_to.Goals as goal

pub bounds-values-neighbour : goal.bounds-values-neighbour
bounds-values-neighbour c = (c.requires.values c.args.neighbour c.requires.neighbour).0

pub bounds-values-device : goal.bounds-values-device
bounds-values-device c = (c.requires.values c.args.device c.requires.device).0

pub returns-in-Some-clause-leads : goal.returns-in-Some-clause-leads
returns-in-Some-clause-leads c = λ t. record {
  value = get_or c.args.values.now c.args.neighbour 0;
  cost = c.in-Some.cost;
  least = (c.requires.values c.args.neighbour c.requires.neighbour).1;
  step = c.in-Some.ensures.cost;
  sum = sym c.stopped-sum.ensures ∙ eqb-true c.stopped-sum.result (get_or c.args.values.now c.args.device 0) t;
}

pub returns-in-Some-clause-not : goal.returns-in-Some-clause-not
returns-in-Some-clause-not c = λ f le.
    let C = costs_of c.args.costs.now in
    let n = c.args.neighbour in
    let v = one_least C n (get_or c.args.values.now n 0) le.value (c.requires.values n c.requires.neighbour).1 le.least in
    let k = steps_one C c.requires.costs n c.args.device c.in-Some.cost le.cost c.in-Some.ensures.cost le.step in
    eqb-false c.stopped-sum.result (get_or c.args.values.now c.args.device 0) f
    (c.stopped-sum.ensures ∙ ap (λ x. min (x + c.in-Some.cost) C.ceiling) v ∙ ap (λ x. min (le.value + x) C.ceiling) k ∙ le.sum)

pub returns-in-None-clause-not : goal.returns-in-None-clause-not
returns-in-None-clause-not c = λ f le. c.in-None.ensures.none le.cost le.step
