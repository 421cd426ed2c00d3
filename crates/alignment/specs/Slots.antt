-- Exports as flat slots that a node sees.
use Rattle.std.specs.Prelude.{ℕ, Bool, ◌&&◌, ◌<◌, List, [], ◌∷◌, filter, length, Option, Some, None}
use Rattle.fc_values.specs.Exports.{SlotValue, slot_at}
use Rattle.alignment.specs.Environments.{own_where, keeps_truth}

-- an aligned neighbour: its number, its weight and its slots
abbrev pub NearSlots : Type 0
NearSlots = ℕ × ℕ × List SlotValue

-- the device's own slots, and those of the neighbours with rising numbers
pub record FlatEnv : Type 0 where
  pub own : Option (List SlotValue)
  pub near : List NearSlots

-- the device's own export, if there is one, has this slot
abbrev pub OwnHas : ℕ → Option (List SlotValue) → Type 0
OwnHas k None = Unit {0}
OwnHas k (Some xs) = k < length xs

-- each neighbour has this slot
abbrev pub NearHave : ℕ → List NearSlots → Type 0
NearHave k [] = Unit {0}
NearHave k (n ∷ ns) = (k < length n.2) × NearHave k ns

-- whether a slot is kept, with this truth value
abbrev pub slot_keeps : ℕ → Bool → List SlotValue → Bool
slot_keeps k b xs = (slot_at k xs).0 && keeps_truth b (Some (slot_at k xs).1)

-- of all exports, the device's own as well, those that keep this truth value in a slot
abbrev pub flat_branch : ℕ → Bool → FlatEnv → FlatEnv
flat_branch k b env =
    record { own = own_where (slot_keeps k b) env.own; near = filter (λ (n : NearSlots). slot_keeps k b n.2) env.near }
