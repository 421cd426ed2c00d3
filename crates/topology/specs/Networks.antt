-- Networks: devices with their inputs, and links between them.
use Rattle.std.specs.Prelude.{ℕ, Bool, true, ◌≡◌, ◌<◌, ◌≤◌, List, [], ◌∷◌, map, length, nat_eq, if◌then◌else◌}
use Rattle.fc_values.specs.Types.{Declarations}
use Rattle.fc_values.specs.Values.{LocalValue, local_of}
use Rattle.fc_values.specs.Fields.{Rises, is_in}
use Rattle.fc_values.specs.Inputs.{InputsFit}
use Rattle.fc_values.specs.declared.limits.TheConstants.{MOST_LINKS}
use Rattle.topology.specs.declared.types.Device.{Device}
use Rattle.topology.specs.declared.types.Link.{Link}
use Rattle.topology.specs.declared.types.TheConstants.{GREATEST_NUMBER, MOST_DEVICES}

-- a device: its number and its inputs
pub record NetDevice : Type 0 where
  pub id : ℕ
  pub inputs : List LocalValue

-- a link between two devices, the lesser one first, with its weight
pub record Edge : Type 0 where
  pub a : ℕ
  pub b : ℕ
  pub weight : ℕ

-- a network: declarations, devices by rising number, and links by rising pairs
pub record Network : Type 0 where
  pub declared : Declarations
  pub devices : List NetDevice
  pub links : List Edge

abbrev pub network_of : Declarations → List NetDevice → List Edge → Network
network_of D ns ls = record { declared = D; devices = ns; links = ls }

abbrev pub net_device_of : Device → NetDevice
net_device_of d = record { id = d.id; inputs = map local_of d.inputs.items }

abbrev pub edge_of : Link → Edge
edge_of l = record { a = l.a; b = l.b; weight = l.weight }

-- the numbers of devices
abbrev pub numbers : List NetDevice → List ℕ
numbers ns = map (λ (n : NetDevice). n.id) ns

-- whether a device is there
abbrev pub lives : Network → ℕ → Bool
lives n d = is_in d (numbers n.devices)

abbrev pub Lives : Network → ℕ → Type 0
Lives n d = lives n d ≡ true

-- the inputs of a device; none where it isn't there
abbrev pub inputs_in : ℕ → List NetDevice → List LocalValue
inputs_in d [] = []
inputs_in d (n ∷ ns) = if nat_eq d n.id then n.inputs else inputs_in d ns

-- the devices that are linked to a device, with the weights of the links
abbrev pub near_in : ℕ → List Edge → List (ℕ × ℕ)
near_in d [] = []
near_in d (l ∷ ls) =
    if nat_eq l.a d then (l.b, l.weight) ∷ near_in d ls
    else (if nat_eq l.b d then (l.a, l.weight) ∷ near_in d ls else near_in d ls)

abbrev pub near : Network → ℕ → List (ℕ × ℕ)
near n d = near_in d n.links

-- each device has a number that devices may have, and the declared inputs
abbrev pub DevicesFit : Declarations → List NetDevice → Type 0
DevicesFit D [] = Unit {0}
DevicesFit D (n ∷ ns) = (n.id ≤ GREATEST_NUMBER) × InputsFit D.inputs n.inputs × DevicesFit D ns

-- a link comes before another: by the first device, then by the second
pub record Before (l m : Edge) : Type 0 where
  pub first : l.a ≤ m.a
  pub second : l.a ≡ m.a → l.b < m.b

abbrev pub BeforeAll : Edge → List Edge → Type 0
BeforeAll l [] = Unit {0}
BeforeAll l (m ∷ ms) = Before l m × BeforeAll l ms

-- links by rising pairs
abbrev pub IsRisingLinks : List Edge → Type 0
IsRisingLinks [] = Unit {0}
IsRisingLinks (l ∷ ls) = BeforeAll l ls × IsRisingLinks ls

-- a link is between two devices that are there, the lesser first, and its weight is in the range of the metric
pub record LinkFits (D : Declarations) (ds : List ℕ) (l : Edge) : Type 0 where
  pub order : l.a < l.b
  pub from : is_in l.a ds ≡ true
  pub to : is_in l.b ds ≡ true
  pub above : D.least ≤ l.weight
  pub below : l.weight ≤ D.greatest

-- links that fit, by rising pairs
abbrev pub LinksFit : Declarations → List ℕ → List Edge → Type 0
LinksFit D ds [] = Unit {0}
LinksFit D ds (l ∷ ls) = LinkFits D ds l × BeforeAll l ls × LinksFit D ds ls

-- what a network has to be: at least one device; no more devices, and no more links of each, than the limits
pub record IsNetwork (n : Network) : Type 0 where
  pub some : 1 ≤ length n.devices
  pub few : length n.devices ≤ MOST_DEVICES
  pub rising : Rises (numbers n.devices)
  pub devices : DevicesFit n.declared n.devices
  pub links : LinksFit n.declared (numbers n.devices) n.links
  pub degree : (d : ℕ) → length (near n d) ≤ MOST_LINKS
