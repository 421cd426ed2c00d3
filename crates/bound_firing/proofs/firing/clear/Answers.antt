use Rattle.std.proofs.Common.{arith, ◌∙◌, ap}
use Rattle.std.proofs.lemmas.List.{map-set}
use Rattle.value_bounds.specs.declared.bounds.LocalBound.TheVariants as local
use Rattle.value_bounds.specs.References.{local_bound_in}
use Rattle.bound_firing.specs.BoundTrees.{slot_bound}
use Rattle.bound_firing.proofs.RootAt.{one_cleared, all_cleared}
use Rattle.bound_firing.proofs.firing.clear.Goals as goal

pub loop-slot-preserved : goal.loop-slot-preserved
loop-slot-preserved c k l =
    ap (slot_bound k) (map-set local_bound_in c.loop-slot.slots c.loop-slot.slot-index local.Unbounded)
    ∙ one_cleared c.loop-slot.slots c.loop-slot.slot-index c.loop-slot.invariant k (omega (arith, l))

pub returns : goal.returns
returns c k =
    let f = c.loop-slot-test.false in
    all_cleared c.loop-slot.slots (λ j l. c.loop-slot.invariant j (omega (arith, f, l))) k
