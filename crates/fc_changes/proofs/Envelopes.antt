-- The envelope of a scene and lines has a device, and so at least one round is made.
use Rattle.std.proofs.Common.{ℕ, ◌≡◌, ◌≤◌, true, List, [], ◌∷◌, length, refl, ap, ◌∙◌, arith}
use Rattle.std.proofs.lemmas.Nat.{le-div}
use Rattle.value_bounds.proofs.Values.{itself}
use Rattle.fc_values.specs.Fields.{is_in}
use Rattle.topology.specs.Networks.{IsNetwork, NetDevice, Network, Lives, numbers}
use Rattle.envelopes.specs.Envelopes.{Envelope, MaybeDevice, ids}
use Rattle.changes.specs.Changes.{ChangeValue}
use Rattle.changes.specs.Hand.{at_hand}
use Rattle.change_envelopes.specs.Envelopes.{IsEnvelopeOf}
use Rattle.settle_rounds.specs.Starts.{growing_cap}

not_empty : (ms : List MaybeDevice) (d : ℕ) → is_in d (ids ms) ≡ true → 1 ≤ length ms
not_empty [] d h = absurd cc
not_empty (m ∷ ms) d h = omega arith

module _ (n : Network) (cs : List ChangeValue) (E : Envelope) (net : IsNetwork n) (is : IsEnvelopeOf n cs E) where
  pub some_devices : 1 ≤ length E.devices
  some_devices = by_devices n.devices refl
    where
      by_devices : (ds : List NetDevice) → n.devices ≡ ds → 1 ≤ length E.devices
      by_devices [] e = absurd (omega (arith, net.some, ap length e))
      by_devices (x ∷ xs) e =
          let first : is_in x.id (numbers (x ∷ xs)) ≡ true = rw (itself x.id) refl in
          let lives : Lives n x.id = ap (λ (ds : List NetDevice). is_in x.id (numbers ds)) e ∙ first in
          let here : at_hand n cs x.id ≡ true = rw lives refl in
          not_empty E.devices x.id (is.devices x.id ∙ here)

  pub some_round : 1 ≤ growing_cap (length E.devices)
  some_round =
      le-div 1 1000000 (length E.devices) (omega (arith, some_devices)) (omega (arith, is.few))
