-- The devices of a scene.
use Rattle.std.specs.Prelude.{ℕ, ◌&&◌, List, nat_le, nat_eq, not, codes}
use Rattle.serde_json.specs.Data.{Data, Items}
use Rattle.fc_values.specs.Types.{Input}
use Rattle.topology.specs.declared.types.TheConstants.{GREATEST_NUMBER, MOST_DEVICES}
use Rattle.topology.specs.declared.types.NetFault.TheVariants as fault
use Rattle.topology.specs.Networks.{NetDevice, Network, lives}
use Rattle.fc_values.specs.Fields.{is_in}
use Rattle.net_json.specs.Judging.{JudgedScene, Accepted, Misshaped, BadNetwork, TooManyDevices, if_accepted, given, require}
use Rattle.net_json.specs.Judging.{gather, at_member}
use Rattle.net_json.specs.Reading.{whole, two_members, size_of, count_items}
use Rattle.net_json.specs.Inputs.{inputs_judged}

-- the form of a device: an object with exactly an `id`, a whole number, and `inputs`, an object
abbrev pub device_form : List ℕ → Data → JudgedScene (ℕ × Data)
device_form path d =
    if_accepted (given (Misshaped path) (two_members (codes "id") (codes "inputs") d)) (λ m.
    if_accepted (given (Misshaped (at_member path (codes "id"))) (whole m.0)) (λ id.
    if_accepted (given (Misshaped (at_member path (codes "inputs"))) (size_of m.1)) (λ size. Accepted (id, m.1))))

-- A number is one that devices may have, and it stood in no device before.
abbrev pub device_number : List ℕ → List ℕ → ℕ → JudgedScene ℕ
device_number before path id =
    require (nat_le id GREATEST_NUMBER) (Misshaped path)
    (require (not (is_in id before)) (BadNetwork path fault.Twice) (Accepted id))

-- The number of a row or of a copy is that of a device, and it stood in none before.
abbrev pub live_number : Network → List ℕ → List ℕ → ℕ → JudgedScene ℕ
live_number n before path id = require (lives n id && not (is_in id before)) (Misshaped path) (Accepted id)

-- a device beside the numbers of those before: its form, its number, its inputs
abbrev pub device_judged : List Input → List ℕ → List ℕ → Data → JudgedScene NetDevice
device_judged is before path d =
    if_accepted (device_form path d) (λ form.
    if_accepted (device_number before (at_member path (codes "id")) form.0) (λ id.
    if_accepted (inputs_judged is (at_member path (codes "inputs")) form.1) (λ vs.
    Accepted (record { id = id; inputs = vs }))))

abbrev pub number_of_device : NetDevice → ℕ
number_of_device n = n.id

-- there are devices, and no more than networks have; each is judged in turn
abbrev pub devices_judged : List Input → List ℕ → Items → JudgedScene (List NetDevice)
devices_judged is path ds =
    require (not (nat_eq (count_items ds) 0)) (Misshaped path)
    (require (nat_le (count_items ds) MOST_DEVICES) (TooManyDevices (count_items ds))
    (gather number_of_device (device_judged is) path ds))
