-- Exports as flat slots.
use Rattle.std.specs.Prelude.{ℕ, Bool, false, List, map, slice_index_or as get_or}
use Rattle.fc_values.specs.declared.exports.Slot.{Slot}
use Rattle.fc_values.specs.declared.exports.Export.{Export}
use Rattle.fc_values.specs.Values.{LocalValue, IntValue, local_of}

-- whether a slot is kept, and its value
abbrev pub SlotValue : Type 0
SlotValue = Bool × LocalValue

-- the slots and the export that those of the code stand for
abbrev pub slot_of : Slot → SlotValue
slot_of s = (s.kept, local_of s.value)

abbrev pub slots_of : List Slot → List SlotValue
slots_of xs = map slot_of xs

-- the slot of a number
unfoldable pub slot_at : ℕ → List SlotValue → SlotValue
slot_at k xs = get_or xs k (false, IntValue 0)

-- an export: its value, and a slot for each kept place
pub record FlatExport : Type 0 where
  pub value : LocalValue
  pub slots : List SlotValue

abbrev pub export_of : Export → FlatExport
export_of e = record { value = local_of e.value; slots = slots_of e.slots.list.items }
