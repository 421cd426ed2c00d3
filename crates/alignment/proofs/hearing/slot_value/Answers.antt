use Rattle.std.proofs.Common.{◌≡◌, ap, sym, subst}
use Rattle.fc_values.specs.declared.exports.Slot.{Slot}
use Rattle.fc_values.specs.Exports.{SlotValue, slot_at, slots_of}
use Rattle.fc_values.specs.Values.{local_of}
use Rattle.fc_values.proofs.SlotReads.{slot_read, slots_long}
use Rattle.alignment.proofs.hearing.slot_value.Goals as goal

pub returns : goal.returns
returns c =
    let xs = c.args.slots.now in
    let read = c.index-slots-slot in
    let e = slot_read xs c.args.slot read.result read.is (slots_long xs c.args.slot c.requires) in
    subst (λ (z : Slot). local_of z.value ≡ (slot_at c.args.slot (slots_of xs)).1) read.is
    (ap (λ (z : SlotValue). z.1) (sym e))
