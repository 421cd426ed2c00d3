-- What the envelope of lines is for.
use Rattle.std.specs.Prelude.{ℕ, ◌≡◌, ◌≤◌, ◌⊎◌, List, [], ◌∷◌, Option}
use Rattle.topology.specs.Networks.{Network, IsNetwork}
use Rattle.firing_core.specs.Entries.{EditValue}
use Rattle.envelopes.specs.Envelopes.{Envelope}
use Rattle.envelopes.specs.Edits.{SureEnds, MayEdit}
use Rattle.envelopes.specs.Lookups.{LiesByLookups}
use Rattle.changes.specs.Changes.{ChangeValue}
use Rattle.changes.specs.Hand.{said}
use Rattle.changes.specs.Faults.{NoneRefused}
use Rattle.change_envelopes.specs.Envelopes.{IsEnvelopeOf}
use Rattle.change_envelopes.specs.Allowed.{Allows}

-- one of the lines says this
abbrev pub IsSaid : ChangeValue → List ChangeValue → Type 0
IsSaid c [] = ⊥
IsSaid c (x ∷ xs) = (x ≡ c) ⊎ IsSaid c xs

-- the scene lies within the envelope
abbrev pub ScenesLie : Type 0
ScenesLie = (n : Network) (cs : List ChangeValue) (E : Envelope) → IsNetwork n → IsEnvelopeOf n cs E → LiesByLookups E n

-- links that are always there are between devices that are
abbrev pub EndsStay : Type 0
EndsStay = (n : Network) (cs : List ChangeValue) (E : Envelope) → IsEnvelopeOf n cs E → SureEnds E.devices E.links

-- each edit that a line allows is one that the envelope allows
abbrev pub LinesMayHappen : Type 0
LinesMayHappen = (n : Network) (ls : List (ℕ × Option ChangeValue)) (E : Envelope) → NoneRefused n ls
    → IsEnvelopeOf n (said ls) E → (c : ChangeValue) → IsSaid c (said ls)
    → (e : EditValue) → Allows n (said ls) c e → MayEdit E e

-- a scene and lines have at most one envelope
abbrev pub OneEnvelope : Type 0
OneEnvelope = (n : Network) (cs : List ChangeValue) (E F : Envelope) → IsEnvelopeOf n cs E → IsEnvelopeOf n cs F → E ≡ F

-- and one, if no line is refused
abbrev pub SomeEnvelope : Type 0
SomeEnvelope = (n : Network) (ls : List (ℕ × Option ChangeValue)) → IsNetwork n → NoneRefused n ls
    → n.declared.least ≤ n.declared.greatest → (E : Envelope) × IsEnvelopeOf n (said ls) E
