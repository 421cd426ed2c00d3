-- The formats of kept lists in code.
use Rattle.std.specs.Prelude.{Option}
use Rattle.serde_json.specs.Data.{Data}
use Rattle.value_trees.specs.KeptItems.{KeptItem}
use Rattle.net_json.specs.declared.kept.Format.{Format}
use Rattle.net_json.specs.declared.kept.Format.TheVariants as format
use Rattle.net_json.specs.KeptItems.{item_of_values, item_of_places}

-- what an item is in a format
abbrev pub item_by : Format → Data → Option KeptItem
item_by format.Values = item_of_values
item_by format.Places = item_of_places
