use Rattle.std.proofs.Common.{ap, sym, ◌∙◌, ◌<◌, length, arith}
use Rattle.std.proofs.lemmas.List.{length-map}
use Rattle.fc_values.specs.declared.exports.Slot.{Slot}
use Rattle.fc_values.specs.Values.{local_of}
use Rattle.fc_values.specs.Exports.{SlotValue, slot_of}
use Rattle.value_trees.specs.SlotFits.{truth_in}
use Rattle.fc_values.proofs.SlotReads.{slot_read}
use Rattle.value_trees.proofs.walks.truth_at.Goals as goal

pub returns : goal.returns
returns c =
    let q = c.requires in
    let h : c.args.at < length c.args.slots.now = omega (arith, q, length-map c.args.slots.now slot_of) in
    let e = slot_read c.args.slots.now c.args.at c.index-slots-at.result c.index-slots-at.is h in
    c.truth_of.ensures ∙ ap (λ (s : Slot). truth_in (local_of s.value)) (sym c.index-slots-at.is) ∙ ap (λ (z : SlotValue). truth_in z.1) (sym e)
