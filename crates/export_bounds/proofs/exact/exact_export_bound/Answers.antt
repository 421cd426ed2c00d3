use Rattle.std.proofs.Common.{List, length, sym, ◌∙◌, ap}
use Rattle.std.proofs.lemmas.List.{length-map}
use Rattle.fc_values.specs.declared.exports.Slot.{Slot}
use Rattle.fc_values.specs.Exports.{export_of, slots_of}
use Rattle.value_bounds.specs.References.{local_bound_in}
use Rattle.export_bounds.specs.Slots.{exact_slot, exact_slots}
use Rattle.export_bounds.proofs.ExactSlots.{export_exact, slots_long}
use Rattle.export_bounds.proofs.exact.exact_export_bound.Goals as goal

pub returns-clause-bound : goal.returns-clause-bound
returns-clause-bound c U h =
    let e = c.in_ok-value.ensures in
    let s = c.in_ok-slots.ensures ∙ ap (λ (xs : List Slot). exact_slots (slots_of xs)) c.deref.ensures.value in
    rw (e, s) (export_exact U c.args.sure (export_of c.args.export.now) h)

pub returns-clause-slots : goal.returns-clause-slots
returns-clause-slots c U h =
    let s = c.in_ok-slots.ensures ∙ ap (λ (xs : List Slot). exact_slots (slots_of xs)) c.deref.ensures.value in
    sym (length-map c.in_ok-slots.slots.items local_bound_in) ∙ ap length s
    ∙ length-map (slots_of c.args.export.now.slots.list.items) exact_slot
    ∙ slots_long U (export_of c.args.export.now) h
