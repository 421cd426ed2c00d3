-- What the root sees of a copy in code.
use Rattle.std.specs.Prelude.{map, option_map}
use Rattle.fc_values.specs.declared.exports.Export.{Export}
use Rattle.fc_values.specs.Exports.{slots_of}
use Rattle.value_trees.specs.declared.copies.Near.{Near}
use Rattle.value_trees.specs.declared.copies.Snap.{Snap}
use Rattle.alignment.specs.Slots.{FlatEnv, NearSlots}

-- a neighbour of a copy
abbrev pub snap_near : Near → NearSlots
snap_near n = (n.device, n.weight, slots_of n.export.slots.list.items)

-- what the root sees of a copy
abbrev pub snap_env : Snap → FlatEnv
snap_env s =
    record { own = option_map (λ (e : Export). slots_of e.slots.list.items) s.own; near = map snap_near s.near.items }
