-- The numbers of a core's devices.
use Rattle.std.proofs.Common.{ℕ, ◌≡◌, List, [], ◌∷◌, map, refl, ap, ◌∙◌}
use Rattle.topology.specs.declared.types.Device.{Device}
use Rattle.topology.specs.Networks.{Network, net_device_of, numbers}

ids_are_numbers : (items : List Device) → map (λ (d : Device). d.id) items ≡ numbers (map net_device_of items)
ids_are_numbers [] = refl
ids_are_numbers (d ∷ items) = ap (λ l. d.id ∷ l) (ids_are_numbers items)

pub live_numbers : (items : List Device) (ids : List ℕ) (n : Network) → ids ≡ map (λ (d : Device). d.id) items
    → map net_device_of items ≡ n.devices → ids ≡ numbers n.devices
live_numbers items ids n e f = e ∙ ids_are_numbers items ∙ ap numbers f
