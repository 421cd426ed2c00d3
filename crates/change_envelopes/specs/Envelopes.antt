-- The envelope of a scene and lines of changes: the scene lies within it, and every network that the lines allow.
use Rattle.std.specs.Prelude.{ℕ, false, ◌≡◌, ◌≤◌, ◌&&◌, min, max, nat_eq, if◌then◌else◌}
use Rattle.std.specs.Prelude.{List, [], ◌∷◌, length, Option, Some, None}
use Rattle.topology.specs.declared.types.TheConstants.{MOST_DEVICES}
use Rattle.topology.specs.Networks.{Network}
use Rattle.envelopes.specs.Envelopes.{MaybeLink, Envelope, IsEnvelope, MayLive, may_live, surely_lives, bounds_in}
use Rattle.envelopes.specs.Envelopes.{maybe_near}
use Rattle.envelopes.specs.Edits.{sure_link}
use Rattle.changes.specs.declared.types.Range.{Range}
use Rattle.changes.specs.Changes.{range}
use Rattle.changes.specs.Changes.{ChangeValue}
use Rattle.changes.specs.Hand.{at_hand}
use Rattle.changes.specs.declared.types.TheConstants.{MOST_PAIRS}
use Rattle.change_bounds.specs.Bounds.{stays, stays_linked, bounds_of_device, weights_of_pair}

-- the weights that the link of two devices may have, the lesser first, where it may be there
abbrev pub weights_in : ℕ → ℕ → List MaybeLink → Option Range
weights_in a b [] = None
weights_in a b (m ∷ ms) =
    if nat_eq m.a a && nat_eq m.b b then Some (range m.least m.greatest) else weights_in a b ms

-- The envelope, by look-ups of devices and pairs. No device may be linked to more than so many.
pub record IsEnvelopeOf (n : Network) (cs : List ChangeValue) (E : Envelope) : Type 0 where
  pub declared : E.declared ≡ n.declared
  pub envelope : IsEnvelope E
  pub few : length E.devices ≤ MOST_DEVICES
  pub crowds : (d : ℕ) → length (maybe_near d E.links) ≤ MOST_PAIRS
  pub devices : (d : ℕ) → may_live E d ≡ at_hand n cs d
  pub sure : (d : ℕ) → surely_lives E d ≡ stays n cs d
  pub inputs : (d : ℕ) → MayLive E d → bounds_in d E.devices ≡ bounds_of_device n cs d
  pub links : (a b : ℕ) → nat_eq a b ≡ false → weights_in (min a b) (max a b) E.links ≡ weights_of_pair n cs a b
  pub sure_links : (a b : ℕ) → nat_eq a b ≡ false → sure_link (min a b) (max a b) E.links ≡ stays_linked n cs a b
