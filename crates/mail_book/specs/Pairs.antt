-- A value for each ordered pair of neighbours, kept in rows: a row for each device, in the order of the network, with a
-- value for each of its neighbours, as they rise. The device of a row receives, and its neighbours send.
use Rattle.std.specs.Prelude.{ℕ, ◌≡◌, ◌<◌, nat_eq, if◌then◌else◌, List, [], ◌∷◌, length, slice_index}
use Rattle.topology.specs.Networks.{Network, numbers, near}
use Rattle.topology.specs.Nearby.{neighbour_numbers, AtPlace}
use Rattle.message_links.specs.MailCores.{Reaches, Pairs}

-- the item at the place that a number has in another list; `z` where it has none
abbrev pub item_at : {X : Type 0} → X → List ℕ → List X → ℕ → X
item_at z [] xs k = z
item_at z (i ∷ is) [] k = z
item_at z (i ∷ is) (x ∷ xs) k = if nat_eq k i then x else item_at z is xs k

-- the item that rows hold for an ordered pair
abbrev pub at_pair : {X : Type 0} → Network → X → List (List X) → Pairs X
at_pair N z rows from to = item_at z (neighbour_numbers (near N to)) (item_at [] (numbers N.devices) rows to) from

-- a row for each device, with as many items as it has neighbours
abbrev pub AreRows : {X : Type 0} → Network → List ℕ → List (List X) → Type 0
AreRows N [] [] = Unit {0}
AreRows N (d ∷ ds) (r ∷ rows) = (length r ≡ length (near N d)) × AreRows N ds rows
AreRows N _ _ = ⊥

-- the place of an ordered pair: the row, and the place in it
pub record AtPair (N : Network) (from to : ℕ) (place : ℕ × ℕ) : Type 0 where
  pub row : AtPlace N to place.0
  pub within : place.1 < length (near N to)
  pub is : slice_index (neighbour_numbers (near N to)) place.1 ≡ from
  pub reaches : Reaches N from to
