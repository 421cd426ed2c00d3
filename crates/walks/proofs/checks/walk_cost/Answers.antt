use Rattle.std.proofs.Common.{ℕ, ◌+◌, List, get_or, drop, sym, subst}
use Rattle.std.proofs.lemmas.List.{drop_more}
use Rattle.std.specs.List.{Contains}
use Rattle.walks.specs.Walks.{costs_of}
use Rattle.walks.proofs.Claims.{start_read}
use Rattle.walks.proofs.Costing.{WalkLeft, walk_begins, walk_goes, walk_stuck, no_start}
use Rattle.walks.proofs.checks.walk_cost.Goals as goal

pub loop-next-init : goal.loop-next-init
loop-next-init c =
    let C = costs_of c.args.costs.now in
    walk_begins C c.requires c.args.walk.now c.in-Some.rest.now c.in-Some.first.now c.index.result.now.1 c.in-Some.ensures.cases.0
    (start_read C.start c.deref.result.now c.in-Some.first.now c.in-Some-place.start c.index.result.now c.deref.ensures.value c.in-Some-place.ensures.within c.in-Some-place.ensures.there c.index.ensures)

pub loop-next-preserved : goal.loop-next-preserved
loop-next-preserved c =
    let C = costs_of c.args.costs.now in
    let walk = c.args.walk.now in
    let rest = c.in-Some.rest.now in
    let i = c.loop-next.next-index in
    let n = get_or rest i 0 in
    subst (λ x. WalkLeft C walk n x (drop (i + 1) rest)) (sym c.stopped-cost.ensures)
    (walk_goes C c.requires walk c.loop-next.at c.loop-next.cost n (drop (i + 1) rest) c.in-Some-step_cost.step
    (subst (λ (xs : List ℕ). WalkLeft C walk c.loop-next.at c.loop-next.cost xs) (drop_more rest i 0 c.loop-next-test.true) c.loop-next.invariant) c.in-Some-step_cost.ensures.cost)

pub returns-in_default-place-clause-none : goal.returns-in_default-place-clause-none
returns-in_default-place-clause-none c =
    let C = costs_of c.args.costs.now in
    no_start C c.args.walk.now c.in-Some.rest.now c.in-Some.first.now c.in-Some.ensures.cases.0
    (λ s h. c.in_default-place.ensures.none s (subst (λ (ys : List (ℕ × ℕ)). Contains ys (c.in-Some.first.now, s)) (sym c.deref.ensures.value) h))

pub returns-in_default-step_cost-clause-none : goal.returns-in_default-step_cost-clause-none
returns-in_default-step_cost-clause-none c =
    let C = costs_of c.args.costs.now in
    let walk = c.args.walk.now in
    let rest = c.in-Some.rest.now in
    let i = c.loop-next.next-index in
    walk_stuck C walk c.loop-next.at c.loop-next.cost (get_or rest i 0) (drop (i + 1) rest)
    (subst (λ (xs : List ℕ). WalkLeft C walk c.loop-next.at c.loop-next.cost xs) (drop_more rest i 0 c.loop-next-test.true) c.loop-next.invariant) c.in_default-step_cost.ensures.none
