use Rattle.std.proofs.Common.{rules, ◌≡◌, arith, add-one, get_or}
use Rattle.fc_values.specs.Exports.{slots_of, slot_at}
use Rattle.stable_field.proofs.OutsideSlots.{below_more, all_slots}
use Rattle.stable_field.proofs.sameness.same_slots.Goals as goal

pub loop-slot-preserved : goal.loop-slot-preserved
loop-slot-preserved c = record {
  same = rw add-one (below_more (λ i. slot_at (get_or c.args.slots.now i 0) (slots_of c.args.a.now) ≡ slot_at (get_or c.args.slots.now i 0) (slots_of c.args.b.now)) c.loop-slot.slot-index c.loop-slot.invariant.same (c.if-not-same_at.ensures (search rules)));
}

pub returns : goal.returns
returns c = λ t. all_slots c.args.slots.now (slots_of c.args.a.now) (slots_of c.args.b.now) (λ i h. let u = c.loop-slot-test.false in c.loop-slot.invariant.same i (omega (arith, h, u)))
