use Rattle.std.proofs.Common.{◌≡◌, true, false, arith, refl, sym, ◌∙◌}
use Rattle.fc_values.specs.Types.{local_type_of}
use Rattle.value_trees.proofs.WalkSteps.{slot_here, here_slot}
use Rattle.value_trees.proofs.walks.one_slot.Goals as goal

pub returns-then-slot_fits : goal.returns-then-slot_fits
returns-then-slot_fits c =
    (slot_here c.args.taken c.args.ceiling (local_type_of c.args.ty.now) c.args.slots.now c.args.at c.index-slots-at.result c.index-slots-at.is (omega arith) (c.slot_fits.ensures.0 c.if-slot_fits.true), refl)

pub returns-else-slot_fits : goal.returns-else-slot_fits
returns-else-slot_fits c = λ h.
    let fits = here_slot c.args.taken c.args.ceiling (local_type_of c.args.ty.now) c.args.slots.now c.args.at c.index-slots-at.result c.index-slots-at.is (omega arith) h in
    let clash : false ≡ true = sym c.if-slot_fits.false ∙ c.slot_fits.ensures.1 fits in
    absurd cc
