-- Fields of what exports have in a slot.
use Rattle.std.specs.Prelude.{ℕ, List, map, Option, Some, None}
use Rattle.fc_values.specs.Values.{LocalValue}
use Rattle.fc_values.specs.Fields.{Entries, with_entry}
use Rattle.fc_values.specs.Exports.{SlotValue, slot_at}
use Rattle.alignment.specs.Slots.{NearSlots, FlatEnv}

-- what each neighbour has in a slot
abbrev pub slot_entries : ℕ → List NearSlots → Entries
slot_entries k ns = map (λ (n : NearSlots). (n.0, (slot_at k n.2).1)) ns

-- what the device's own export has in a slot, or a first value where there is no own export
abbrev pub own_slot_or : ℕ → LocalValue → Option (List SlotValue) → LocalValue
own_slot_or k first None = first
own_slot_or k first (Some xs) = (slot_at k xs).1

-- the field of what each neighbour has in a slot, and of a device's own value
abbrev pub field_with : ℕ → ℕ → LocalValue → FlatEnv → Entries
field_with slot device own env = with_entry device own (slot_entries slot env.near)

-- the same with what the device's own export has there, or a first value
abbrev pub heard_field : ℕ → ℕ → LocalValue → FlatEnv → Entries
heard_field slot device first env = field_with slot device (own_slot_or slot first env.own) env
