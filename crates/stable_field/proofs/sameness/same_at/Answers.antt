use Rattle.std.proofs.Common.{◌∙◌, sym}
use Rattle.fc_values.proofs.SlotReads.{slot_read}
use Rattle.stable_field.proofs.sameness.same_at.Goals as goal

pub returns : goal.returns
returns c = λ t.
    slot_read c.args.a.now c.args.at c.index-a-at.result c.index-a-at.is c.requires.first
    ∙ c.same_slot.ensures t
    ∙ sym (slot_read c.args.b.now c.args.at c.index-b-at.result c.index-b-at.is c.requires.second)
