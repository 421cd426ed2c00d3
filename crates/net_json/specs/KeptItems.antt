-- The items of kept lists, as they stand in a row or a copy.
use Rattle.std.specs.Prelude.{ℕ, List, [], ◌∷◌, ◌++◌, Option, Some, None, option_map, option_and_then}
use Rattle.serde_json.specs.Data.{Data, Items, no_items, item}
use Rattle.serde_json.specs.Find.{as_array}
use Rattle.fc_values.specs.Values.{LocalValue}
use Rattle.value_trees.specs.KeptItems.{KeptItem, plain_item}
use Rattle.net_json.specs.Judging.{JudgedScene, Accepted, Misshaped, if_accepted, given}
use Rattle.net_json.specs.Reading.{whole, value_of, both_some}

abbrev pub placed_item : ℕ × LocalValue → KeptItem
placed_item p = record { place = Some p.0; value = p.1 }

-- in format 1 an item is a value
abbrev pub item_of_values : Data → Option KeptItem
item_of_values d = option_map plain_item (value_of d)

-- in format 2 it is an array of a whole number and a value
abbrev pub place_and_value : Items → Option (ℕ × LocalValue)
place_and_value (item a (item b no_items)) = both_some (whole a) (value_of b)
place_and_value _ = None

abbrev pub item_of_places : Data → Option KeptItem
item_of_places d = option_map placed_item (option_and_then place_and_value (as_array d))

-- the items of a list, behind those before; each is judged by its form alone
abbrev pub kept_judged : (Data → Option KeptItem) → List KeptItem → List ℕ → Data → JudgedScene (List KeptItem)
kept_judged read before path d = if_accepted (given (Misshaped path) (read d)) (λ x. Accepted (before ++ x ∷ []))
