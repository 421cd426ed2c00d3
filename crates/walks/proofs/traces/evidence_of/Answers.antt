use Rattle.std.proofs.Common.{ℕ, List, [], ◌∷◌, ◌++◌, get_or, reverse, sym, ◌∙◌, ap, subst, append_assoc}
use Rattle.walks.specs.Walks.{costs_of, IsBestWalk}
use Rattle.walks.proofs.Parents.{parent_falls, parent_device, parent_best, parent_alone, reverse_push}
use Rattle.walks.proofs.traces.evidence_of.Goals as goal

pub bounds-values-device : goal.bounds-values-device
bounds-values-device c = (c.requires.values c.args.device c.requires.device).0

pub bounds-parents-at : goal.bounds-parents-at
bounds-parents-at c = (c.requires.parents c.loop-at.at c.loop-at.invariant.device).0

pub loop-at-smaller : goal.loop-at-smaller
loop-at-smaller c =
    parent_falls (costs_of c.args.costs.now) c.requires.costs c.args.values.now c.requires.values c.loop-at.at (get_or c.args.parents.now c.loop-at.at 0) c.loop-at.invariant.device
    (c.requires.parents c.loop-at.at c.loop-at.invariant.device).1 c.loop-at-test.true

pub loop-at-preserved : goal.loop-at-preserved
loop-at-preserved c =
    let C = costs_of c.args.costs.now in
    let at = c.loop-at.at in
    let n = get_or c.args.parents.now at 0 in
    let walk = c.loop-at.walk.items in
    let was = c.loop-at.invariant in
    let parent = (c.requires.parents at was.device).1 in
    record {
      device = parent_device C c.requires.costs at n was.device parent;
      best = λ w b. subst (λ xs. IsBestWalk C c.args.device (w ++ xs)) (sym (ap (λ (xs : List ℕ). reverse xs) c.in_ok-push-2.ensures.items ∙ reverse_push walk n))
          (subst (λ xs. IsBestWalk C c.args.device xs) (append_assoc w (n ∷ []) (reverse walk))
          (was.best (w ++ n ∷ []) (parent_best C c.requires.costs at n (w ++ n ∷ []) parent c.loop-at-test.true b)));
    }

pub returns-clause-least : goal.returns-clause-least
returns-clause-least c = (c.requires.values c.args.device c.requires.device).1

pub returns-clause-best : goal.returns-clause-best
returns-clause-best c =
    let C = costs_of c.args.costs.now in
    let at = c.loop-at.at in
    let was = c.loop-at.invariant in
    subst (λ xs. IsBestWalk C c.args.device xs) (sym c.reverse.ensures.items)
    (was.best [] (parent_alone C c.requires.costs at (get_or c.args.parents.now at 0) (c.requires.parents at was.device).1 c.loop-at-test.false))
