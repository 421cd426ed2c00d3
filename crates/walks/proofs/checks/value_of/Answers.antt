use Rattle.std.proofs.Common.{ℕ, List, ◌<◌, length, sym, ◌∙◌, ap, subst, get_or}
use Rattle.std.specs.List.{Contains}
use Rattle.walks.specs.Walks.{costs_of}
use Rattle.walks.proofs.Claims.{value_there, value_nowhere}
use Rattle.walks.proofs.checks.value_of.Goals as goal

pub returns-in-Some : goal.returns-in-Some
returns-in-Some c =
    let xs = c.args.costs.now.start.items in
    let i = c.in-Some.at in
    sym (value_there (costs_of c.args.costs.now) c.requires.costs c.args.claim.now c.requires.devices i c.args.device c.index-claim-at.result
    (subst (λ (ys : List (ℕ × ℕ)). i < length ys) c.deref.ensures.value c.in-Some.ensures.within)
    (ap (λ (ys : List (ℕ × ℕ)). (get_or ys i (0, 0)).0) (sym c.deref.ensures.value) ∙ c.in-Some.ensures.there))

pub returns-in-None : goal.returns-in-None
returns-in-None c =
    sym (value_nowhere c.args.claim.now c.args.costs.now.start.items c.requires.devices c.args.device
    (λ s h. c.in-None.ensures.none s (subst (λ (ys : List (ℕ × ℕ)). Contains ys (c.args.device, s)) (sym c.deref.ensures.value) h)))
