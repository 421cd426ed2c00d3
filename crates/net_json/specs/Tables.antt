-- The table of a scene, in either format.
use Rattle.std.specs.Prelude.{ℕ, List, codes, Option, Some, None}
use Rattle.serde_json.specs.Data.{Data, Items}
use Rattle.serde_json.specs.Find.{as_array}
use Rattle.fc_values.specs.Values.{LocalValue}
use Rattle.fc_values.specs.Trees.{TreeExport}
use Rattle.fc_nodes.specs.Program.{Unfolding}
use Rattle.topology.specs.Networks.{Network}
use Rattle.net_json.specs.Judging.{JudgedScene, Accepted, Misshaped, if_accepted, given, require, gather, at_member}
use Rattle.net_json.specs.Reading.{whole, value_of, two_members, three_members, is_exactly}
use Rattle.net_json.specs.Devices.{live_number}
use Rattle.value_trees.specs.KeptItems.{KeptItem}
use Rattle.net_json.specs.KeptItems.{item_of_values, item_of_places}
use Rattle.net_json.specs.Exports.{export_judged}

-- a row: a device with its export
abbrev pub Row : Type 0
Row = ℕ × TreeExport

abbrev pub row_number : Row → ℕ
row_number r = r.0

-- what a row of either format holds, by its form: a whole number, a value, and an array
pub record RowForm : Type 0 where
  pub id : ℕ
  pub value : LocalValue
  pub kept : Items

abbrev pub row_form : List ℕ → Data → JudgedScene RowForm
row_form path d =
    if_accepted (given (Misshaped path) (three_members (codes "id") (codes "value") (codes "kept") d)) (λ m.
    if_accepted (given (Misshaped (at_member path (codes "id"))) (whole m.0)) (λ id.
    if_accepted (given (Misshaped (at_member path (codes "value"))) (value_of m.1.0)) (λ v.
    if_accepted (given (Misshaped (at_member path (codes "kept"))) (as_array m.1.1)) (λ ds.
    Accepted (record { id = id; value = v; kept = ds })))))

-- a row beside the numbers of those before: its form, its number, its export
abbrev pub row_judged : Unfolding → Network → (Data → Option KeptItem) → List ℕ → List ℕ → Data → JudgedScene Row
row_judged U n read before path d =
    if_accepted (row_form path d) (λ form.
    if_accepted (live_number n before (at_member path (codes "id")) form.id) (λ id.
    if_accepted (export_judged U read path form.value form.kept) (λ e. Accepted (id, e))))

abbrev pub rows_judged : Unfolding → Network → (Data → Option KeptItem) → List ℕ → Items → JudgedScene (List Row)
rows_judged U n read path ds = gather row_number (row_judged U n read) path ds

-- an object of format 2: exactly the members `format`, which is the number 2, and `rows`, an array
abbrev pub second_format : List ℕ → Data → JudgedScene Items
second_format path d =
    if_accepted (given (Misshaped path) (two_members (codes "format") (codes "rows") d)) (λ m.
    require (is_exactly 2 (whole m.0)) (Misshaped (at_member path (codes "format")))
    (given (Misshaped (at_member path (codes "rows"))) (as_array m.1)))

-- a table of format 2
abbrev pub second_judged : Unfolding → Network → List ℕ → Data → JudgedScene (List Row)
second_judged U n path d =
    if_accepted (second_format path d) (λ ds. rows_judged U n item_of_places (at_member path (codes "rows")) ds)

-- a table: an array of rows of format 1, or an object of format 2
abbrev pub array_or : Unfolding → Network → List ℕ → Option Items → JudgedScene (List Row) → JudgedScene (List Row)
array_or U n path (Some ds) other = rows_judged U n item_of_values path ds
array_or U n path None other = other

abbrev pub table_judged : Unfolding → Network → List ℕ → Data → JudgedScene (List Row)
table_judged U n path d = array_or U n path (as_array d) (second_judged U n path d)
