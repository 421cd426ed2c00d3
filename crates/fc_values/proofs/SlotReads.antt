-- Crates above cite this module: a slot of a list of slots, read and written.
use Rattle.std.proofs.Common.{◌≡◌, ◌≢◌, ℕ, zero, suc, ◌<◌, List, [], ◌∷◌, length, get_or, get_or-set_same, get_or-set_other, sym, ap, arith, false}
use Rattle.std.specs.Prelude.{slice_set}
use Rattle.std.proofs.lemmas.List.{length-map}
use Rattle.fc_values.specs.declared.exports.Slot.{Slot}
use Rattle.fc_values.specs.Values.{IntValue}
use Rattle.fc_values.specs.Exports.{SlotValue, slot_of, slots_of, slot_at}

pub slots_long : (xs : List Slot) (k : ℕ) → k < length (slots_of xs) → k < length xs
slots_long xs k h = omega (arith, h, length-map xs slot_of)

pub slot_read : (xs : List Slot) (k : ℕ) (s : Slot) → s ≡ get_or xs k s → k < length xs → slot_at k (slots_of xs) ≡ slot_of s
unfolding slot_at
slot_read [] k s e h = absurd (omega arith)
slot_read (x ∷ xs) zero s e h = ap slot_of (sym e)
slot_read (x ∷ xs) (suc k) s e h = slot_read xs k s e (omega arith)

pub slot_set_same : (k : ℕ) (v : SlotValue) (xs : List SlotValue) → k < length xs → slot_at k (slice_set xs k v) ≡ v
unfolding slot_at
slot_set_same k v xs h = get_or-set_same xs k v (false, IntValue 0) h

pub slot_set_other : (j k : ℕ) (v : SlotValue) (xs : List SlotValue) → j ≢ k → slot_at j (slice_set xs k v) ≡ slot_at j xs
unfolding slot_at
slot_set_other j k v xs h = get_or-set_other xs k j v (false, IntValue 0) h
