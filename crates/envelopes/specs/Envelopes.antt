-- Envelopes: which networks may be while devices, inputs and links change.
use Rattle.std.specs.Prelude.{ℕ, Bool, true, false, ◌≡◌, ◌≤◌, List, [], ◌∷◌, map, nat_eq, if◌then◌else◌}
use Rattle.fc_values.specs.Types.{Declarations}
use Rattle.fc_values.specs.Fields.{Rises, is_in}
use Rattle.topology.specs.Networks.{NetDevice, Edge, Network, LinksFit}
use Rattle.value_bounds.specs.BoundValues.{BoundValue}
use Rattle.bound_firing.specs.Firing.{InputsLie}

-- a device that may be there: bounds of its inputs, and whether it is always there
pub record MaybeDevice : Type 0 where
  pub id : ℕ
  pub inputs : List BoundValue
  pub sure : Bool

-- a link that may be there, the lesser device first: the least and the greatest weight, and whether it is always there
pub record MaybeLink : Type 0 where
  pub a : ℕ
  pub b : ℕ
  pub least : ℕ
  pub greatest : ℕ
  pub sure : Bool

pub record Envelope : Type 0 where
  pub declared : Declarations
  pub devices : List MaybeDevice
  pub links : List MaybeLink

abbrev pub ids : List MaybeDevice → List ℕ
ids ms = map (λ (m : MaybeDevice). m.id) ms

-- a device is one of the envelope
abbrev pub may_live : Envelope → ℕ → Bool
may_live E d = is_in d (ids E.devices)

abbrev pub MayLive : Envelope → ℕ → Type 0
MayLive E d = may_live E d ≡ true

-- whether a device is always there
abbrev pub sure_in : ℕ → List MaybeDevice → Bool
sure_in d [] = false
sure_in d (m ∷ ms) = if nat_eq d m.id then m.sure else sure_in d ms

abbrev pub surely_lives : Envelope → ℕ → Bool
surely_lives E d = sure_in d E.devices

-- the bounds of the inputs of a device
abbrev pub bounds_in : ℕ → List MaybeDevice → List BoundValue
bounds_in d [] = []
bounds_in d (m ∷ ms) = if nat_eq d m.id then m.inputs else bounds_in d ms

-- the neighbours that a device may have: the other end and the link
abbrev pub maybe_near : ℕ → List MaybeLink → List (ℕ × MaybeLink)
maybe_near d [] = []
maybe_near d (l ∷ ls) =
    if nat_eq l.a d then (l.b, l) ∷ maybe_near d ls
    else (if nat_eq l.b d then (l.a, l) ∷ maybe_near d ls else maybe_near d ls)

abbrev pub near_ids : List (ℕ × MaybeLink) → List ℕ
near_ids ns = map (λ (n : ℕ × MaybeLink). n.0) ns

-- ---- what envelopes have to meet

-- a link with its least weight
abbrev pub least_edge : MaybeLink → Edge
least_edge l = record { a = l.a; b = l.b; weight = l.least }

-- Devices by rising numbers, links by rising pairs, each between two devices. That is all that the laws ask: nothing of
-- bounds of inputs and of greatest weights, of how many links a device has, or of sure links of devices that may be
-- away.
pub record IsEnvelope (E : Envelope) : Type 0 where
  pub rising : Rises (ids E.devices)
  pub links : LinksFit E.declared (ids E.devices) (map least_edge E.links)

-- ---- networks in an envelope

-- devices are some of those that may be there, among them all sure ones, with inputs in their bounds
pub data DevicesWithin : List MaybeDevice → List NetDevice → Type 0 where
  no_device : DevicesWithin [] []
  is_there : (m : MaybeDevice) (n : NetDevice) {ms : List MaybeDevice} {ns : List NetDevice} → n.id ≡ m.id
      → InputsLie m.inputs n.inputs → DevicesWithin ms ns → DevicesWithin (m ∷ ms) (n ∷ ns)
  is_away : (m : MaybeDevice) {ms : List MaybeDevice} {ns : List NetDevice} → m.sure ≡ false → DevicesWithin ms ns
      → DevicesWithin (m ∷ ms) ns

-- a link is one that may be there, with a weight in its bound
pub record LinkWithin (m : MaybeLink) (l : Edge) : Type 0 where
  pub a : l.a ≡ m.a
  pub b : l.b ≡ m.b
  pub above : m.least ≤ l.weight
  pub below : l.weight ≤ m.greatest

-- links are some of those that may be there, among them all sure ones
pub data LinksWithin : List MaybeLink → List Edge → Type 0 where
  no_link : LinksWithin [] []
  is_linked : (m : MaybeLink) (l : Edge) {ms : List MaybeLink} {ls : List Edge} → LinkWithin m l → LinksWithin ms ls
      → LinksWithin (m ∷ ms) (l ∷ ls)
  is_unlinked : (m : MaybeLink) {ms : List MaybeLink} {ls : List Edge} → m.sure ≡ false → LinksWithin ms ls
      → LinksWithin (m ∷ ms) ls

pub record LiesWithin (E : Envelope) (N : Network) : Type 0 where
  pub declared : N.declared ≡ E.declared
  pub devices : DevicesWithin E.devices N.devices
  pub links : LinksWithin E.links N.links
