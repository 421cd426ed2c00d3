use Rattle.std.proofs.Common.{arith, sym, subst}
use Rattle.std.proofs.lemmas.List.Elements.{AllWithin-more, at_read}
use Rattle.walks.specs.declared.types.Evidence.{Evidence}
use Rattle.walks.specs.Walks.{costs_of, WalkCosts}
use Rattle.walks.proofs.Claims.{walks_have, walk_at}
use Rattle.walks.proofs.checks.have_walks.Goals as goal

pub returns-then-not-has_walk-clause-not : goal.returns-then-not-has_walk-clause-not
returns-then-not-has_walk-clause-not c = λ f h.
    let C = costs_of c.args.costs.now in
    let e = c.one-item.result in
    c.has_walk.ensures.not c.if-not-has_walk.true
    (subst (λ (x : Evidence). WalkCosts C x.walk.items x.device x.value) (sym c.one-item.is) (walk_at C c.args.claim.now c.loop-one.one-index e c.loop-one-test.true h))

pub loop-one-preserved : goal.loop-one-preserved
loop-one-preserved c =
    let C = costs_of c.args.costs.now in
    let P : Evidence → Type 0 = λ (x : Evidence). WalkCosts C x.walk.items x.device x.value in
    AllWithin-more P c.args.claim.now 0 c.loop-one.one-index c.loop-one.invariant
    (at_read c.args.claim.now P c.loop-one.one-index c.one-item.result c.loop-one-test.true c.one-item.is (c.has_walk.ensures.has c.if-not-has_walk.false))

pub returns-clause-have : goal.returns-clause-have
returns-clause-have c = λ t. walks_have (costs_of c.args.costs.now) c.args.claim.now (λ k d l. c.loop-one.invariant k d (omega arith) (omega (arith, l, c.loop-one-test.false)))
