-- What references in code stand for.
use Rattle.std.specs.Prelude.{ℕ, Bool, List, map, filter, option_map}
use Rattle.std.specs.Borrow.{Bor}
use Rattle.fc_values.specs.declared.exports.Slot.{Slot}
use Rattle.fc_values.specs.Exports.{SlotValue, slots_of}
use Rattle.alignment.specs.declared.environments.NearRef.{NearRef}
use Rattle.alignment.specs.declared.environments.Env.{Env}
use Rattle.alignment.specs.Slots.{FlatEnv, NearSlots, slot_keeps}
use Rattle.alignment.specs.Environments.{near_numbers}

-- the slots behind a reference
abbrev pub borrowed_slots : Bor (List Slot) → List SlotValue
borrowed_slots s = slots_of s.now

-- an aligned neighbour
abbrev pub near_of : NearRef → NearSlots
near_of n = (n.device, n.weight, borrowed_slots n.slots)

-- the aligned neighbours
abbrev pub nears_of : List NearRef → List NearSlots
nears_of ns = map near_of ns

-- the environment that an environment in code stands for
abbrev pub flat_of : Env → FlatEnv
flat_of env = record { own = option_map borrowed_slots env.own; near = nears_of env.near.items }

-- the numbers of the aligned neighbours
abbrev pub numbers_in : Env → List ℕ
numbers_in env = near_numbers (flat_of env).near

-- those of some slots that keep a truth value
abbrev pub that_keep : ℕ → Bool → List NearSlots → List NearSlots
that_keep slot truth ns = filter (λ (n : NearSlots). slot_keeps slot truth n.2) ns
