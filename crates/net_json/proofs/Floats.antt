-- The JSON value of a table has no float.
use Rattle.std.proofs.Common.{◌≡◌, ℕ, List, [], ◌∷◌, map, false, refl}
use Rattle.serde_json.specs.View.{items_of}
use Rattle.serde_json.specs.Written.{has_float, items_have_float}
use Rattle.fc_values.specs.Values.{LocalValue, IntValue, BoolValue, PairValue}
use Rattle.fc_nodes.specs.Program.{Unfolding}
use Rattle.net_json.specs.Tables.{Row}
use Rattle.net_json.specs.TableTexts.{value_data, placed_data, placed, row_data, table_data}

value_plain : (v : LocalValue) → has_float (value_data v) ≡ false
value_plain (IntValue n) = refl
value_plain (BoolValue b) = refl
value_plain (PairValue a b) = let e = value_plain a in let f = value_plain b in rw (e, f) refl

placed_plain : (xs : List (ℕ × LocalValue)) → items_have_float (items_of (map placed_data xs)) ≡ false
placed_plain [] = refl
placed_plain (x ∷ xs) = let e = value_plain x.1 in let f = placed_plain xs in rw (e, f) refl

module _ (U : Unfolding) where
  rows_plain : (rows : List Row) → items_have_float (items_of (map (row_data U) rows)) ≡ false
  rows_plain [] = refl
  rows_plain (r ∷ rs) = let e = placed_plain (placed U.main 0 r.1.tree) in let f = value_plain r.1.value in let g = rows_plain rs in rw (e, f, g) refl

  pub table_plain : (rows : List Row) → has_float (table_data U rows) ≡ false
  table_plain rows = let e = rows_plain rows in rw e refl
