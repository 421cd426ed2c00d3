use Rattle.std.proofs.Common.{◌≡◌, ℕ, ◌<◌, ◌+◌, ◌*◌, ◌-◌, length, ◌∙◌, sym, subst, arith, refl}
use Rattle.fc_nodes.specs.Places.{StandsAt}
use Rattle.fragment_check.specs.Facts.{InRow}
use Rattle.fragment_check.proofs.Steps.{first_later}
use Rattle.round_bound.specs.declared.scopes.Context.{Context}
use Rattle.round_bound.specs.declared.scopes.Position.{Position}
use Rattle.round_bound.specs.Walks.{Ready}
use Rattle.round_bound.proofs.NodeSteps.{Later, found_level, found_none, row, small, leaf_below, apply_below}
use Rattle.round_bound.proofs.NodeSteps.{nbr_long, nbr_inside, nbr_level, nbr_below}
use Rattle.round_bound.proofs.NodeSteps.{if_long, if_condition, if_first, if_second, if_below}
use Rattle.round_bound.proofs.NodeSteps.{let_long, let_bound, let_body, let_below}
use Rattle.round_bound.proofs.NodeSteps.{evolve_long, evolve_body, evolve_level, evolve_order, evolve_below}
use Rattle.round_bound.proofs.walk.+walk.Goals as goal

-- from a node the walk goes on to a later place: the measure falls, and levels are asked for there
goes_on : {c : Context} {p q t : ℕ} {s : Position} → 3 * (length c.program.now.nodes - p) + 3 ≡ t → Later c p q s
    → (3 * (length c.program.now.nodes - q) + 5 < t) × (Ready c q s × StandsAt c.program.now.nodes q)
goes_on d later =
    let a = later.after in
    let w = later.stands.within in
    (omega (arith, d, a, w), (later.ready, later.stands))

pub walk-returns-then-not-found : goal.walk-returns-then-not-found
walk-returns-then-not-found t c =
    let l = c.len-at.ensures in
    found_level c.in_ok-found.ensures c.in_ok-push.ensures.items (omega (arith, l)) c.if-not-found.true

pub walk-returns-else-not-found : goal.walk-returns-else-not-found
walk-returns-else-not-found t c =
    found_none c.in_ok-found.ensures c.in_ok-push.ensures.items c.if-not-found.false

pub below-walk_all-requires : goal.below-walk_all-requires
below-walk_all-requires t c =
    let d = c.decreases in
    let w = c.requires.at.stands.within in
    let r = subst (InRow c.args.context.now.program.now.nodes c.args.place) (sym c.as_slice.ensures.value)
    (row c.requires.at) in
    let f = first_later c.args.context.now.program.now.nodes c.args.place c.as_slice.result.now w r in
    (omega (arith, d, w, f), (c.requires.at.ready, r))

pub below-returns-then-is_apply : goal.below-returns-then-is_apply
below-returns-then-is_apply t c =
    apply_below c.requires.at (sym c.is_apply.ensures ∙ c.if-is_apply.true) c.walk_all.result _ _
    c.as_slice.ensures.value c.walk_all.ensures

pub below-returns : goal.below-returns
below-returns t c =
    leaf_below c.requires.at (sym c.is_nbr.ensures ∙ c.if-is_nbr.false) (sym c.is_if.ensures ∙ c.if-is_if.false)
    (sym c.is_let.ensures ∙ c.if-is_let.false) (sym c.is_evolving.ensures ∙ c.if-is_evolving.false)
    (sym c.is_apply.ensures ∙ c.if-is_apply.false) c.leaf.ensures.level c.leaf.ensures.uses

pub below_nbr-index-inside-requires : goal.below_nbr-index-inside-requires
below_nbr-index-inside-requires t c = let l = nbr_long c.requires.at c.requires.nbr in omega (arith, l)

pub below_nbr-walk-requires : goal.below_nbr-walk-requires
below_nbr-walk-requires t c =
    goes_on c.decreases (nbr_inside c.requires.at c.requires.nbr c.index-inside.ensures)

pub below_nbr-is_own-own-requires : goal.below_nbr-is_own-own-requires
below_nbr-is_own-own-requires t c =
    let k = nbr_inside c.requires.at c.requires.nbr c.index-inside.ensures in
    k.stands

pub below_nbr-overflow_add-result : goal.below_nbr-overflow_add-result
below_nbr-overflow_add-result t c =
    let e = nbr_level c.requires.at c.requires.nbr c.index-inside.ensures c.is_own-own.ensures
    c.in_ok-found.ensures.level c.chosen.ensures in
    let k = small c.requires.at in
    omega (arith, e, k)

pub below_nbr-returns : goal.below_nbr-returns
below_nbr-returns t c =
    nbr_below c.requires.at c.requires.nbr c.index-inside.ensures c.is_own-own.ensures c.chosen.ensures
    c.in_ok-found.ensures

pub below_if-index-requires : goal.below_if-index-requires
below_if-index-requires t c = let l = if_long c.requires.at c.requires.branching in omega (arith, l)

pub below_if-index-requires-2 : goal.below_if-index-requires-2
below_if-index-requires-2 t c = let l = if_long c.requires.at c.requires.branching in omega (arith, l)

pub below_if-index-requires-3 : goal.below_if-index-requires-3
below_if-index-requires-3 t c = let l = if_long c.requires.at c.requires.branching in omega (arith, l)

pub below_if-walk-requires : goal.below_if-walk-requires
below_if-walk-requires t c =
    goes_on c.decreases (if_condition c.requires.at c.requires.branching c.index.ensures)

pub below_if-walk-requires-2 : goal.below_if-walk-requires-2
below_if-walk-requires-2 t c =
    goes_on c.decreases (if_first c.requires.at c.requires.branching c.index.ensures c.index-2.ensures
    c.in_ok-condition.ensures.level)

pub below_if-walk-requires-3 : goal.below_if-walk-requires-3
below_if-walk-requires-3 t c =
    goes_on c.decreases (if_second c.requires.at c.requires.branching c.index.ensures c.index-2.ensures
    c.index-3.ensures c.in_ok-condition.ensures.level)

pub below_if-returns : goal.below_if-returns
below_if-returns t c =
    if_below c.requires.at c.requires.branching c.index.ensures c.index-2.ensures c.index-3.ensures
    c.in_ok-condition.ensures c.in_ok-first.ensures c.in_ok-second.ensures c.max.ensures c.max-2.ensures

pub below_let-index-requires : goal.below_let-index-requires
below_let-index-requires t c = let l = let_long c.requires.at c.requires.binding in omega (arith, l)

pub below_let-index-requires-2 : goal.below_let-index-requires-2
below_let-index-requires-2 t c = let l = let_long c.requires.at c.requires.binding in omega (arith, l)

pub below_let-walk-requires : goal.below_let-walk-requires
below_let-walk-requires t c =
    goes_on c.decreases (let_bound c.requires.at c.requires.binding c.index.ensures)

pub below_let-walk-requires-2 : goal.below_let-walk-requires-2
below_let-walk-requires-2 t c =
    goes_on c.decreases (let_body c.requires.at c.requires.binding c.index.ensures c.index-2.ensures
    c.in_ok-bound.ensures.level refl refl)

pub below_let-returns : goal.below_let-returns
below_let-returns t c =
    let_below c.requires.at c.requires.binding c.index.ensures c.index-2.ensures c.in_ok-bound.ensures
    c.in_ok-body.ensures.level c.in_ok-body.ensures.uses c.in_ok-body.ensures.levels

pub below_evolving-index-body-requires : goal.below_evolving-index-body-requires
below_evolving-index-body-requires t c = let l = evolve_long c.requires.at c.requires.evolving in omega (arith, l)

pub below_evolving-index-requires : goal.below_evolving-index-requires
below_evolving-index-requires t c = let l = evolve_long c.requires.at c.requires.evolving in omega (arith, l)

pub below_evolving-overflow_sub-body : goal.below_evolving-overflow_sub-body
below_evolving-overflow_sub-body t c =
    let l = evolve_order c.requires.at c.requires.evolving c.index-body.ensures c.index.ensures in
    omega (arith, l)

pub below_evolving-walk-requires : goal.below_evolving-walk-requires
below_evolving-walk-requires t c =
    goes_on c.decreases (evolve_body c.requires.at c.requires.evolving c.index-body.ensures)

pub below_evolving-overflow_add-result : goal.below_evolving-overflow_add-result
below_evolving-overflow_add-result t c =
    let e = evolve_level c.requires.at c.requires.evolving c.index-body.ensures c.in_ok-found.ensures.level
    c.added.ensures in
    let k = small c.requires.at in
    omega (arith, e, k)

pub below_evolving-returns : goal.below_evolving-returns
below_evolving-returns t c =
    evolve_below c.requires.at c.requires.evolving c.index-body.ensures c.index.ensures c.in_ok-none_for.ensures
    c.in_ok-found.ensures c.added.ensures c.occurs.ensures
