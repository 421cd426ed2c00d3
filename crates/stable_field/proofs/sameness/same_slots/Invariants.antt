use Rattle.std.proofs.Common.{ℕ, ◌<◌, ◌≡◌, get_or}
use Rattle.fc_values.specs.Exports.{slots_of, slot_at}
use Rattle.stable_field.proofs.sameness.same_slots.Given as goal

abbrev pub invariant-loop-slot : goal.invariant-loop-slot
invariant-loop-slot l = record {
  same : (i : ℕ) → i < l.slot-index → slot_at (get_or l.slots i 0) (slots_of l.a) ≡ slot_at (get_or l.slots i 0) (slots_of l.b);
}
