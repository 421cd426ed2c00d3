-- The copies of a scene that are in flight.
use Rattle.std.specs.Prelude.{ℕ, ◌&&◌, List, not, nat_eq, nat_le, codes, Option, Some, None, is_some, if◌then◌else◌}
use Rattle.std.specs.Prelude.{Bool, true, false}
use Rattle.serde_json.specs.Data.{Data, null, boolean, number, string, array, object, Items}
use Rattle.serde_json.specs.Find.{as_null, as_array}
use Rattle.fc_values.specs.Types.{Declarations}
use Rattle.fc_values.specs.declared.limits.TheConstants.{MOST_LINKS}
use Rattle.fc_values.specs.Values.{LocalValue}
use Rattle.fc_values.specs.Trees.{TreeExport, NearCopy, Copy}
use Rattle.fc_nodes.specs.Program.{Unfolding}
use Rattle.topology.specs.declared.types.TheConstants.{GREATEST_NUMBER}
use Rattle.topology.specs.declared.types.NetFault.TheVariants as fault
use Rattle.topology.specs.Networks.{Network}
use Rattle.fc_values.specs.Fields.{is_in}
use Rattle.topology.specs.Changes.{in_metric}
use Rattle.net_json.specs.Judging.{JudgedScene, Accepted, Misshaped, BadNetwork, if_accepted, given, require, gather, at_member}
use Rattle.net_json.specs.Reading.{whole, value_of, two_members, four_members, size_of, count_items}
use Rattle.net_json.specs.Inputs.{inputs_judged}
use Rattle.net_json.specs.Devices.{live_number}
use Rattle.net_json.specs.KeptItems.{item_of_values}
use Rattle.net_json.specs.Exports.{export_judged}

-- ---- the own export

-- the export of an object with exactly a value and a kept list, in format 1
abbrev pub own_export : Unfolding → List ℕ → Data → JudgedScene TreeExport
own_export U path d =
    if_accepted (given (Misshaped path) (two_members (codes "value") (codes "kept") d)) (λ m.
    if_accepted (given (Misshaped (at_member path (codes "value"))) (value_of m.0)) (λ v.
    if_accepted (given (Misshaped (at_member path (codes "kept"))) (as_array m.1)) (λ ds.
    export_judged U item_of_values path v ds)))

abbrev pub some_export : JudgedScene TreeExport → JudgedScene (Option TreeExport)
some_export e = if_accepted e (λ x. Accepted (Some x))

-- null, or an export
abbrev pub own_judged : Unfolding → List ℕ → Data → JudgedScene (Option TreeExport)
own_judged U path d = if is_some (as_null d) then Accepted None else some_export (own_export U path d)

abbrev pub is_null_or_object : Data → Bool
is_null_or_object null = true
is_null_or_object (boolean b) = false
is_null_or_object (number n) = false
is_null_or_object (string s) = false
is_null_or_object (array ds) = false
is_null_or_object (object ms) = true

-- ---- neighbours

-- what an item of `near` holds, by its form: two whole numbers, a value, and an array
pub record NearForm : Type 0 where
  pub id : ℕ
  pub weight : ℕ
  pub value : LocalValue
  pub kept : Items

abbrev pub near_form : List ℕ → Data → JudgedScene NearForm
near_form path d =
    if_accepted
    (given (Misshaped path) (four_members (codes "id") (codes "weight") (codes "value") (codes "kept") d)) (λ m.
    if_accepted (given (Misshaped (at_member path (codes "id"))) (whole m.0.0)) (λ id.
    if_accepted (given (Misshaped (at_member path (codes "weight"))) (whole m.0.1)) (λ w.
    if_accepted (given (Misshaped (at_member path (codes "value"))) (value_of m.1.0)) (λ v.
    if_accepted (given (Misshaped (at_member path (codes "kept"))) (as_array m.1.1)) (λ ds.
    Accepted (record { id = id; weight = w; value = v; kept = ds }))))))

-- The number of a neighbour is one that devices may have, that of another device, and of none before.
abbrev pub other_number : ℕ → List ℕ → List ℕ → ℕ → JudgedScene ℕ
other_number device before path id =
    require (nat_le id GREATEST_NUMBER && not (nat_eq id device) && not (is_in id before)) (Misshaped path)
    (Accepted id)

-- the weight of a neighbour is in the range of the metric
abbrev pub weight_judged : Declarations → List ℕ → ℕ → JudgedScene ℕ
weight_judged D path w = require (in_metric D w) (BadNetwork path fault.Weight) (Accepted w)

-- a neighbour beside the numbers of those before: its form, its number, its weight, its export
abbrev pub near_judged : Unfolding → ℕ → List ℕ → List ℕ → Data → JudgedScene NearCopy
near_judged U device before path d =
    if_accepted (near_form path d) (λ form.
    if_accepted (other_number device before (at_member path (codes "id")) form.id) (λ id.
    if_accepted (weight_judged U.declared (at_member path (codes "weight")) form.weight) (λ w.
    if_accepted (export_judged U item_of_values path form.value form.kept) (λ e.
    Accepted (record { device = id; weight = w; export = e })))))

abbrev pub near_number : NearCopy → ℕ
near_number n = n.device

-- no more neighbours than a device has, each judged in turn
abbrev pub nears_judged : Unfolding → ℕ → List ℕ → Items → JudgedScene (List NearCopy)
nears_judged U device path ds =
    require (nat_le (count_items ds) MOST_LINKS) (Misshaped path) (gather near_number (near_judged U device) path ds)

-- ---- copies

-- what a copy holds, by its form: a whole number, an object, null or an object, and an array
pub record CopyForm : Type 0 where
  pub id : ℕ
  pub inputs : Data
  pub own : Data
  pub near : Items

abbrev pub copy_form : List ℕ → Data → JudgedScene CopyForm
copy_form path d =
    if_accepted
    (given (Misshaped path) (four_members (codes "id") (codes "inputs") (codes "own") (codes "near") d)) (λ m.
    if_accepted (given (Misshaped (at_member path (codes "id"))) (whole m.0.0)) (λ id.
    if_accepted (given (Misshaped (at_member path (codes "inputs"))) (size_of m.0.1)) (λ size.
    require (is_null_or_object m.1.0) (Misshaped (at_member path (codes "own")))
    (if_accepted (given (Misshaped (at_member path (codes "near"))) (as_array m.1.1)) (λ ds.
    Accepted (record { id = id; inputs = m.0.1; own = m.1.0; near = ds }))))))

abbrev pub copy_number : Copy → ℕ
copy_number c = c.device

-- the copy of a device: its inputs, its own export, its neighbours
abbrev pub parts_judged : Unfolding → List ℕ → ℕ → CopyForm → JudgedScene Copy
parts_judged U path device form =
    if_accepted (inputs_judged U.declared.inputs (at_member path (codes "inputs")) form.inputs) (λ vs.
    if_accepted (own_judged U (at_member path (codes "own")) form.own) (λ own.
    if_accepted (nears_judged U device (at_member path (codes "near")) form.near) (λ ns.
    Accepted (record { device = device; inputs = vs; own = own; near = ns }))))

-- a copy beside the numbers of those before: its form, its number as that of a row, its parts
abbrev pub copy_judged : Unfolding → Network → List ℕ → List ℕ → Data → JudgedScene Copy
copy_judged U n before path d =
    if_accepted (copy_form path d) (λ form.
    if_accepted (live_number n before (at_member path (codes "id")) form.id) (λ id. parts_judged U path id form))

abbrev pub copies_judged : Unfolding → Network → List ℕ → Items → JudgedScene (List Copy)
copies_judged U n path ds = gather copy_number (copy_judged U n) path ds
