-- What the export of an accepted list keeps.
use Rattle.std.specs.Prelude.{ℕ, ◌≡◌, List, [], ◌∷◌, map, Option, Some, option_map}
use Rattle.serde_json.specs.Data.{Data, Items, no_items, item}
use Rattle.fc_values.specs.Values.{LocalValue}
use Rattle.fc_values.specs.Trees.{TreeExport}
use Rattle.fc_nodes.specs.Program.{Unfolding}
use Rattle.fc_nodes.specs.Flat.{IsWellTyped}
use Rattle.value_trees.specs.KeptLists.{kept_values}
use Rattle.net_json.specs.Judging.{Accepted}
use Rattle.value_trees.specs.KeptItems.{KeptItem}
use Rattle.net_json.specs.Exports.{export_judged}

-- the value that each item of a list has, if it has one
abbrev pub item_values : (Data → Option KeptItem) → Items → List (Option LocalValue)
item_values read no_items = []
item_values read (item d ds) = option_map (λ (x : KeptItem). x.value) (read d) ∷ item_values read ds

-- an export of a program with this value, which keeps the values of these items and no more, in their order
pub record KeepsItems (U : Unfolding) (read : Data → Option KeptItem) (v : LocalValue) (ds : Items) (e : TreeExport)
    : Type 0 where
  pub typed : IsWellTyped U e
  pub value : e.value ≡ v
  pub list : map Some (kept_values e) ≡ item_values read ds

-- the export that is accepted for a value and a list, in either format, of a row or of a part of a copy
abbrev pub AcceptedListsAreKept : Type 0
AcceptedListsAreKept =
    (U : Unfolding) (read : Data → Option KeptItem) (path : List ℕ) (v : LocalValue) (ds : Items) (e : TreeExport)
    → export_judged U read path v ds ≡ Accepted e → KeepsItems U read v ds e
