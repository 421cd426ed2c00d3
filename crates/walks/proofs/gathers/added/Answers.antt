use Rattle.std.proofs.Common.{ℕ, List, sym, ◌∙◌, ap, subst}
use Rattle.std.specs.List.{Contains}
use Rattle.walks.specs.declared.types.Add.{Add}
use Rattle.walks.specs.Gathering.{added, added_of, EachRises}
use Rattle.walks.proofs.Claims.{has_at, has_read}
use Rattle.walks.proofs.gathers.added.Goals as goal

pub returns-in-Some : goal.returns-in-Some
returns-in-Some c =
    let rises = subst (λ (a : Add). EachRises (added_of a)) c.in-Each.is c.requires in
    sym (ap (λ (a : Add). added (added_of a) c.args.neighbour) c.in-Each.is
    ∙ has_read c.in-Each.costs.items c.deref.result.now c.args.neighbour.0 c.in-Some.at c.index.result.now c.deref.ensures.value rises c.in-Some.ensures.within c.in-Some.ensures.there c.index.ensures)

pub returns-in-None : goal.returns-in-None
returns-in-None c =
    sym (ap (λ (a : Add). added (added_of a) c.args.neighbour) c.in-Each.is
    ∙ has_at c.in-Each.costs.items c.args.neighbour.0 (λ s h. c.in-None.ensures.none s (subst (λ (ys : List (ℕ × ℕ)). Contains ys (c.args.neighbour.0, s)) (sym c.deref.ensures.value) h)))
