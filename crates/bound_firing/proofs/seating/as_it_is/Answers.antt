use Rattle.std.proofs.Common.{refl}
use Rattle.bound_firing.proofs.HeldAt.{seated}
use Rattle.bound_firing.proofs.seating.as_it_is.Goals as goal

pub returns-then-are_seated : goal.returns-then-are_seated
returns-then-are_seated c =
    let all = rw (c.deref.ensures.value, c.deref-in-Field.ensures.value) at c.are_seated.ensures c.if-are_seated.true in
    rw (c.in-Field.is, ← seated _ _ all) refl
