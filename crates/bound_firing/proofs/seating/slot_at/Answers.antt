use Rattle.std.proofs.Common.{sym}
use Rattle.bound_firing.proofs.SlotReads.{slot_read, slots_long}
use Rattle.bound_firing.proofs.seating.slot_at.Goals as goal

pub returns : goal.returns
returns c =
    let h = slots_long c.args.slots.now c.args.slot c.requires in
    sym (slot_read c.args.slots.now c.args.slot c.index-slots-slot.result c.index-slots-slot.is h)
