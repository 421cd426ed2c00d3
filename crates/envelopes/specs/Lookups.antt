-- Which networks lie within an envelope, by look-ups: for texts, and for code that makes an envelope.
use Rattle.std.specs.Prelude.{ℕ, true, ◌≡◌, List, [], ◌∷◌}
use Rattle.topology.specs.Networks.{Edge, Network, Lives, inputs_in}
use Rattle.topology.specs.Changes.{has_pair}
use Rattle.bound_firing.specs.Firing.{InputsLie}
use Rattle.envelopes.specs.Envelopes.{MaybeLink, Envelope, MayLive, surely_lives, bounds_in}
use Rattle.envelopes.specs.Edits.{sure_link, MayLink}

-- each link is one that may be there, with a weight in its bound
abbrev pub AllMayLink : List MaybeLink → List Edge → Type 0
AllMayLink ms [] = Unit {0}
AllMayLink ms (l ∷ ls) = MayLink l.a l.b l.weight ms × AllMayLink ms ls

-- a network has the declarations; its devices may be there, with inputs in their bounds, and those that are always
-- there are; its links may be there, with weights in their bounds, and those that are always there are
pub record LiesByLookups (E : Envelope) (N : Network) : Type 0 where
  pub declared : N.declared ≡ E.declared
  pub devices : (d : ℕ) → Lives N d → MayLive E d
  pub inputs : (d : ℕ) → Lives N d → InputsLie (bounds_in d E.devices) (inputs_in d N.devices)
  pub sure : (d : ℕ) → surely_lives E d ≡ true → Lives N d
  pub links : AllMayLink E.links N.links
  pub sure_links : (a b : ℕ) → sure_link a b E.links ≡ true → has_pair a b N.links ≡ true
