-- What the variable of a `rep` or `share` starts from, out of exports as flat slots.
use Rattle.std.specs.Prelude.{ℕ}
use Rattle.fc_values.specs.Values.{LocalValue}
use Rattle.fc_values.specs.Fields.{AnyValue, ValueLocal, ValueField, with_entry}
use Rattle.fc_nodes.specs.Terms.{Evolution, ByRep, ByShare}
use Rattle.alignment.specs.Slots.{FlatEnv}
use Rattle.alignment.specs.Hearing.{own_slot_or, slot_entries}

abbrev pub started : Evolution → ℕ → FlatEnv → ℕ → LocalValue → AnyValue
started ByRep device env k first = ValueLocal (own_slot_or k first env.own)
started ByShare device env k first =
    ValueField (with_entry device (own_slot_or k first env.own) (slot_entries k env.near))
