use Rattle.export_bounds.proofs.Injective.{told}
use Rattle.export_bounds.proofs.same.same_export_bound.Goals as goal

pub returns-then-same_bound-clause-other : goal.returns-then-same_bound-clause-other
returns-then-same_bound-clause-other c U l m e =
    c.same_slots.ensures.1 (rw (c.deref.ensures.value, c.deref-then-same_bound.ensures.value)
    (told U c.args.a.now c.args.b.now l m e))
