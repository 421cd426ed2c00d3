-- One slot for each device: reading one.
use Rattle.std.proofs.Common.{◌≡◌, ℕ, ◌<◌, List, length, get_or, sym, ◌∙◌, arith, Option, None}
use Rattle.std.proofs.lemmas.List.{length-map}
use Rattle.topology.specs.Networks.{NetDevice, Network, IsNetwork, numbers}
use Rattle.firing_core.specs.CoreViews.{device_slot}
use Rattle.firing_core.proofs.Slots.{rises_distinct, slot_here}

-- what stands at the place of a device of a network is its slot
pub slot_read : {X : Type 0} (N : Network) → IsNetwork N → (xs : List (Option X)) (k d : ℕ) (v : Option X) → length xs ≡ length N.devices → k < length N.devices
    → get_or (numbers N.devices) k 0 ≡ d → v ≡ get_or xs k None → device_slot (numbers N.devices) xs d ≡ v
slot_read N net xs k d v l h e q =
    let m = length-map N.devices (λ (n : NetDevice). n.id) in
    slot_here (numbers N.devices) xs k d (rises_distinct (numbers N.devices) net.rising) (omega (arith, h, m)) e (omega (arith, l, m)) ∙ sym q
