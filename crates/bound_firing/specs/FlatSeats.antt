-- Seats over flat slots, as code has them, and what a branch leaves of them.
use Rattle.std.specs.Prelude.{ℕ, Bool, ◌&&◌, ◌<◌, List, [], ◌∷◌, map, length}
use Rattle.std.specs.Prelude.{Option, Some, None, option_map, if◌then◌else◌}
use Rattle.fc_nodes.specs.Terms.{Term}
use Rattle.value_bounds.specs.BoundValues.{BoundValue, Between, either}
use Rattle.value_bounds.specs.BoundBuiltins.{Maybes, BoundEntries}
use Rattle.bound_firing.specs.BoundTrees.{BoundTree, slot_bound, bound_tree_at}
use Rattle.bound_firing.specs.Seats.{NearSeat, Seats, may_be, is_settled}

-- a neighbour that may be aligned: its number, the least and the greatest weight, whether it is aligned for sure, and
-- the bounds of its slots
pub record FlatSeat : Type 0 where
  pub device : ℕ
  pub least : ℕ
  pub greatest : ℕ
  pub sure : Bool
  pub slots : List BoundValue

-- the own seat, whether for sure and with its slots, and the neighbours
pub record FlatSeats : Type 0 where
  pub own : Option (Bool × List BoundValue)
  pub near : List FlatSeat

-- the seats that they are for a term whose first kept place is slot k
abbrev pub seat_over : Term → ℕ → FlatSeat → NearSeat
seat_over t k n = record {
  device = n.device;
  least = n.least;
  greatest = n.greatest;
  sure = n.sure;
  tree = bound_tree_at t k n.slots;
}

abbrev pub own_over : Term → ℕ → Bool × List BoundValue → Bool × BoundTree
own_over t k o = (o.0, bound_tree_at t k o.1)

abbrev pub seats_over : Term → ℕ → FlatSeats → Seats
seats_over t k s = record { own = option_map (own_over t k) s.own; near = map (seat_over t k) s.near }

-- the numbers of the neighbours, and whether they are aligned for sure
abbrev pub flat_maybe : FlatSeat → ℕ × Bool
flat_maybe n = (n.device, n.sure)

abbrev pub flat_maybes : List FlatSeat → Maybes
flat_maybes ns = map flat_maybe ns

-- those that may keep a truth value in a slot; for sure where they were and it is known
abbrev pub flat_own_branch : ℕ → Bool → Option (Bool × List BoundValue) → Option (Bool × List BoundValue)
flat_own_branch k t None = None
flat_own_branch k t (Some o) =
    if may_be t (slot_bound k o.1) then Some (o.0 && is_settled (slot_bound k o.1), o.1) else None

abbrev pub flat_less_sure : ℕ → FlatSeat → FlatSeat
flat_less_sure k n = record {
  device = n.device;
  least = n.least;
  greatest = n.greatest;
  sure = n.sure && is_settled (slot_bound k n.slots);
  slots = n.slots;
}

abbrev pub flat_near_branch : ℕ → Bool → List FlatSeat → List FlatSeat
flat_near_branch k t [] = []
flat_near_branch k t (n ∷ ns) = if may_be t (slot_bound k n.slots) then flat_less_sure k n ∷ flat_near_branch k t ns
    else flat_near_branch k t ns

abbrev pub flat_branch : ℕ → Bool → FlatSeats → FlatSeats
flat_branch k t s = record { own = flat_own_branch k t s.own; near = flat_near_branch k t s.near }

-- a field over the neighbours: of their weights, and of what they hold in a slot
abbrev pub flat_entries : (FlatSeat → BoundValue) → List FlatSeat → BoundEntries
flat_entries f ns = map (λ (n : FlatSeat). (n.device, n.sure, f n)) ns

abbrev pub flat_weight : FlatSeat → BoundValue
flat_weight n = Between n.least n.greatest

abbrev pub flat_slot : ℕ → FlatSeat → BoundValue
flat_slot k n = slot_bound k n.slots

-- what the own slot holds: surely, maybe, or the first value
abbrev pub flat_own_bound : ℕ → Option (Bool × List BoundValue) → BoundValue → BoundValue
flat_own_bound k None first = first
flat_own_bound k (Some o) first = if o.0 then slot_bound k o.1 else either first (slot_bound k o.1)

-- the own slots, if there are any, and those of each neighbour have slot k
abbrev pub OwnHasSlot : ℕ → Option (Bool × List BoundValue) → Type 0
OwnHasSlot k None = Unit {0}
OwnHasSlot k (Some o) = k < length o.1

abbrev pub NearHaveSlot : ℕ → List FlatSeat → Type 0
NearHaveSlot k [] = Unit {0}
NearHaveSlot k (n ∷ ns) = (k < length n.slots) × NearHaveSlot k ns

abbrev pub SlotsHave : ℕ → FlatSeats → Type 0
SlotsHave k s = OwnHasSlot k s.own × NearHaveSlot k s.near
