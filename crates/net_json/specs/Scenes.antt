-- Scenes: a network, a table of exports, and copies in flight.
use Rattle.std.specs.Prelude.{ℕ, ◌+◌, Bool, true, false, List, [], codes, Option, Some, None, unwrap_or, if◌then◌else◌}
use Rattle.std.specs.Str.{is_utf8}
use Rattle.serde_json.specs.Data.{Data, null, boolean, number, string, array, object, Items, no_items}
use Rattle.serde_json.specs.Find.{get, as_array}
use Rattle.serde_json.specs.Read.{read}
use Rattle.fc_values.specs.Trees.{Copy}
use Rattle.fc_nodes.specs.Program.{Unfolding}
use Rattle.topology.specs.Networks.{Network, network_of}
use Rattle.net_json.specs.Judging.{JudgedScene, Accepted, Refused, NotJson, Misshaped, if_accepted, given, require, at_member}
use Rattle.net_json.specs.Reading.{both_some, has_size}
use Rattle.net_json.specs.Devices.{devices_judged}
use Rattle.net_json.specs.Links.{links_judged}
use Rattle.net_json.specs.Tables.{Row, table_judged}
use Rattle.net_json.specs.Copies.{copies_judged}

-- the path of a member of the scene
abbrev pub scene_path : List ℕ → List ℕ
scene_path name = at_member [] name

-- what a scene is read to: the network, the rows and the copies by rising devices
pub record SceneValue : Type 0 where
  pub net : Network
  pub table : List Row
  pub pending : List Copy

-- `table` and `pending` may be missing, and are then empty
abbrev pub or_empty : Option Data → Data
or_empty d = unwrap_or d (array no_items)

abbrev pub one_if_there : Option Data → ℕ
one_if_there None = 0
one_if_there (Some d) = 1

-- an object with `devices` and `links`, at most beside `table` and `pending`
abbrev pub scene_members : Data → Option (Data × Data)
scene_members d =
    if has_size (2 + one_if_there (get (codes "table") d) + one_if_there (get (codes "pending") d)) d
    then both_some (get (codes "devices") d) (get (codes "links") d)
    else None

abbrev pub is_table : Data → Bool
is_table null = false
is_table (boolean b) = false
is_table (number n) = false
is_table (string s) = false
is_table (array ds) = true
is_table (object ms) = true

-- the parts of a scene, by its form: three arrays, and a table that is an array or an object
pub record SceneForm : Type 0 where
  pub devices : Items
  pub links : Items
  pub table : Data
  pub pending : Items

abbrev pub scene_form : Data → JudgedScene SceneForm
scene_form d =
    if_accepted (given (Misshaped []) (scene_members d)) (λ m.
    if_accepted (given (Misshaped (scene_path (codes "devices"))) (as_array m.0)) (λ devices.
    if_accepted (given (Misshaped (scene_path (codes "links"))) (as_array m.1)) (λ links.
    require (is_table (or_empty (get (codes "table") d))) (Misshaped (scene_path (codes "table")))
    (if_accepted
    (given (Misshaped (scene_path (codes "pending"))) (as_array (or_empty (get (codes "pending") d)))) (λ pending.
    Accepted (record {
      devices = devices;
      links = links;
      table = or_empty (get (codes "table") d);
      pending = pending;
    }))))))

-- the network of a scene: its devices, then its links
abbrev pub network_judged : Unfolding → Items → Items → JudgedScene Network
network_judged U devices links =
    if_accepted (devices_judged U.declared.inputs (scene_path (codes "devices")) devices) (λ ds.
    links_judged (scene_path (codes "links")) (network_of U.declared ds []) links)

-- a scene: its form, then devices, links, rows and copies
abbrev pub scene_judged : Unfolding → Data → JudgedScene SceneValue
scene_judged U d =
    if_accepted (scene_form d) (λ form.
    if_accepted (network_judged U form.devices form.links) (λ n.
    if_accepted (table_judged U n (scene_path (codes "table")) form.table) (λ rows.
    if_accepted (copies_judged U n (scene_path (codes "pending")) form.pending) (λ copies.
    Accepted (record { net = n; table = rows; pending = copies })))))

-- the JSON value of a text: what `serde_json` reads in a text of UTF-8
abbrev pub json_of : List ℕ → Option Data
json_of text = if is_utf8 text then read text else None

abbrev pub of_reading : Unfolding → Option Data → JudgedScene SceneValue
of_reading U None = Refused NotJson
of_reading U (Some d) = scene_judged U d

-- the scene of a text
abbrev pub scene_of : Unfolding → List ℕ → JudgedScene SceneValue
scene_of U text = of_reading U (json_of text)
