use Rattle.std.proofs.Common.{◌∙◌, sym, subst}
use Rattle.stable_field.specs.Outside.{SameAt}
use Rattle.stable_field.proofs.OutsideSlots.{split_last, own_slot}
use Rattle.stable_field.proofs.outside.add_own.Goals as goal

pub returns-in_ok-push-in-Some : goal.returns-in_ok-push-in-Some
returns-in_ok-push-in-Some c = λ xs ys h.
    let r = split_last c.args.slots.now.items c.in-Some.slot xs ys (subst (λ is. SameAt is xs ys) c.in_ok-push-in-Some.ensures.items h) in
    (r.0, own_slot c.args.program.now.nodes c.args.place c.in-Some.slot _ xs ys (sym c.in-Some.is ∙ c.slot.ensures ∙ c.layout.ensures.layout.each c.args.place) r.1)
