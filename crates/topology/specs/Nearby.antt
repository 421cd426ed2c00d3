-- The lists of neighbours that a network keeps beside its links.
use Rattle.std.specs.Prelude.{ℕ, ◌≡◌, ◌≤◌, ◌<◌, ◌*◌, nat_eq, nat_lt, not, if◌then◌else◌}
use Rattle.std.specs.Prelude.{List, [], ◌∷◌, ◌++◌, map, length, filter, slice_index}
use Rattle.arrayvec.specs.ArrayVec.{ArrayVec}
use Rattle.fc_values.specs.Types.{Declarations}
use Rattle.fc_values.specs.declared.limits.TheConstants.{MOST_LINKS}
use Rattle.topology.specs.Networks.{Network, NetDevice, Edge, IsNetwork, numbers, near_in}
use Rattle.fc_values.specs.Lists.{insert_after}

-- the neighbours of each device
abbrev pub near_each : List ℕ → List Edge → List (List (ℕ × ℕ))
near_each ds ls = map (λ d. near_in d ls) ds

abbrev pub neighbour_numbers : List (ℕ × ℕ) → List ℕ
neighbour_numbers ns = map (λ n. n.0) ns

-- neighbours without one of them
abbrev pub drop_near : ℕ → List (ℕ × ℕ) → List (ℕ × ℕ)
drop_near d ns = filter (λ n. not (nat_eq n.0 d)) ns

-- neighbours with one more, in its place among rising numbers
abbrev pub insert_near : ℕ → ℕ → List (ℕ × ℕ) → List (ℕ × ℕ)
insert_near d w ns = insert_after (λ n. nat_lt n.0 d) (d, w) ns

-- the neighbours in a list of the code
abbrev pub items_of : ArrayVec (ℕ × ℕ) → List (ℕ × ℕ)
items_of v = v.items

-- the links of which a device is the lesser end, read off its neighbours
abbrev pub links_from : ℕ → List (ℕ × ℕ) → List Edge
links_from d [] = []
links_from d (n ∷ ns) =
    if nat_lt d n.0 then record { a = d; b = n.0; weight = n.1 } ∷ links_from d ns else links_from d ns

-- all links of some devices, read off their neighbours
abbrev pub links_in : List ℕ → List (List (ℕ × ℕ)) → List Edge
links_in [] lists = []
links_in (d ∷ ds) [] = []
links_in (d ∷ ds) (ns ∷ lists) = links_from d ns ++ links_in ds lists

-- a network as its draft has it: declarations, devices, and the neighbours of each, off which the links are read
abbrev pub drawn : Declarations → List NetDevice → List (List (ℕ × ℕ)) → Network
drawn D ns lists = record { declared = D; devices = ns; links = links_in (numbers ns) lists }

-- these are the neighbours of each device of a network
pub record IsDrawn (n : Network) (lists : List (List (ℕ × ℕ))) : Type 0 where
  pub network : IsNetwork n
  pub near : lists ≡ near_each (numbers n.devices) n.links

-- the links that are read off the lists make a network, and the lists are the neighbours of its devices
abbrev pub IsDraft : Declarations → List NetDevice → List (List (ℕ × ℕ)) → Type 0
IsDraft D ns lists = IsDrawn (drawn D ns lists) lists

-- these are the links of a network, and there is room for as many as its devices can have
pub record IsWritten (n : Network) (ls : List Edge) (capacity : ℕ) : Type 0 where
  pub links : ls ≡ n.links
  pub room : MOST_LINKS * length n.devices ≤ capacity

-- a place is that of a device
pub record AtPlace (n : Network) (d at : ℕ) : Type 0 where
  pub within : at < length n.devices
  pub is : slice_index (numbers n.devices) at ≡ d

-- two places are those of two devices
pub record AtEnds (n : Network) (a b : ℕ) (at : ℕ × ℕ) : Type 0 where
  pub first : AtPlace n a at.0
  pub second : AtPlace n b at.1
