use Rattle.std.proofs.Common.{refl}
use Rattle.fc_values.proofs.SlotReads.{slot_read, slots_long}
use Rattle.alignment.proofs.branches.keeps.Goals as goal

pub returns-then-s : goal.returns-then-s
returns-then-s c =
    let h = slots_long c.args.slots.now c.args.slot c.requires in
    let e = slot_read c.args.slots.now c.args.slot c.index-slots-slot.result c.index-slots-slot.is h in
    rw (e, c.if-s.true) c.is_truth.ensures

pub returns-else-s : goal.returns-else-s
returns-else-s c =
    let h = slots_long c.args.slots.now c.args.slot c.requires in
    let e = slot_read c.args.slots.now c.args.slot c.index-slots-slot.result c.index-slots-slot.is h in
    rw (e, c.if-s.false) refl
