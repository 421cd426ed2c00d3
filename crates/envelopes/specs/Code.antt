-- What envelopes in code stand for.
use Rattle.std.specs.Prelude.{ℕ, true, ◌≡◌, ◌<◌, List, [], ◌∷◌, map}
use Rattle.std.specs.declared.vec.Vec.{Vec}
use Rattle.std.specs.declared.alloc.Global.{Global}
use Rattle.fc_values.specs.Types.{Declarations}
use Rattle.fc_values.specs.Fields.{is_in}
use Rattle.value_bounds.specs.References.{local_bounds_in}
use Rattle.envelopes.specs.declared.types.DeviceBound.{DeviceBound}
use Rattle.envelopes.specs.declared.types.LinkBound.{LinkBound}
use Rattle.envelopes.specs.Envelopes.{MaybeDevice, MaybeLink, Envelope, ids, maybe_near, IsEnvelope}

abbrev pub maybe_device_of : DeviceBound → MaybeDevice
maybe_device_of d = record { id = d.id; inputs = local_bounds_in d.inputs.items; sure = d.sure }

abbrev pub maybe_link_of : LinkBound → MaybeLink
maybe_link_of l = record { a = l.a; b = l.b; least = l.least; greatest = l.greatest; sure = l.sure }

abbrev pub envelope_of : Declarations → List MaybeDevice → List MaybeLink → Envelope
envelope_of D ms ls = record { declared = D; devices = ms; links = ls }

-- a neighbour that a device may have, and a list of them
abbrev pub neighbour_of : ℕ × LinkBound → ℕ × MaybeLink
neighbour_of n = (n.0, maybe_link_of n.1)

abbrev pub neighbours_of : Vec (ℕ × LinkBound) Global → List (ℕ × MaybeLink)
neighbours_of v = map neighbour_of v.items

-- the neighbours that each of some devices may have
abbrev pub near_each : List ℕ → List MaybeLink → List (List (ℕ × MaybeLink))
near_each ds ls = map (λ d. maybe_near d ls) ds

-- the ends of links are two devices, the lesser first
abbrev pub EndsFit : List ℕ → List MaybeLink → Type 0
EndsFit ds [] = Unit {0}
EndsFit ds (l ∷ ls) = (l.a < l.b) × (is_in l.a ds ≡ true) × (is_in l.b ds ≡ true) × EndsFit ds ls

-- these are the neighbours of each device of an envelope
pub record IsDrawn (E : Envelope) (lists : List (List (ℕ × MaybeLink))) : Type 0 where
  pub envelope : IsEnvelope E
  pub near : lists ≡ near_each (ids E.devices) E.links
