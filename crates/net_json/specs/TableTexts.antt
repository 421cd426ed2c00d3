-- The text of a table.
use Rattle.std.specs.Prelude.{ℕ, suc, ◌+◌, Bool, false, List, [], ◌∷◌, ◌++◌, map, codes, Option, Some, None}
use Rattle.std.specs.Prelude.{if◌then◌else◌}
use Rattle.serde_json.specs.Data.{Data, number, unsigned, boolean, array, object, member, no_members}
use Rattle.serde_json.specs.View.{items_of}
use Rattle.serde_json.specs.Written.{compact_text}
use Rattle.fc_values.specs.Values.{LocalValue, IntValue, BoolValue, PairValue}
use Rattle.fc_values.specs.Trees.{Tree, Trees, Done, Then, Keep, child, nth_tree, kept_of}
use Rattle.fc_nodes.specs.Terms.{Term, Terms, Plain, Apply, Nbr, Evolve, If, Let, NoMore, More, size}
use Rattle.fc_nodes.specs.Program.{Unfolding}
use Rattle.value_trees.specs.SlotFits.{truth_in}
use Rattle.net_json.specs.Tables.{Row}

-- a number, and a local value, as JSON
abbrev pub whole_data : ℕ → Data
whole_data n = number (unsigned n)

abbrev pub value_data : LocalValue → Data
value_data (IntValue n) = whole_data n
value_data (BoolValue b) = boolean b
value_data (PairValue a b) = array (items_of (value_data a ∷ value_data b ∷ []))

abbrev pub kept_at : ℕ → Option LocalValue → List (ℕ × LocalValue)
kept_at p None = []
kept_at p (Some v) = (p, v) ∷ []

-- whether what is kept names the first branch
abbrev pub takes_first : Option LocalValue → Bool
takes_first None = false
takes_first (Some v) = truth_in v

abbrev pub kids_of : Tree → Trees
kids_of (Keep v ts) = ts

abbrev pub later_kids : Trees → Trees
later_kids Done = Done
later_kids (Then t ts) = ts

-- the kept places in a tree of the term at a place, rising, with the values that they keep
abbrev mutual
  pub placed : Term → ℕ → Tree → List (ℕ × LocalValue)
  placed (Plain t l) p tree = []
  placed (Apply t o ts) p tree = placed_all ts (suc p) (kids_of tree)
  placed (Nbr t a) p tree = kept_at p (kept_of tree) ++ placed a (suc p) (child 0 tree)
  placed (Evolve t e a b) p tree =
      kept_at p (kept_of tree) ++ placed a (suc p) (child 0 tree) ++ placed b (suc p + size a) (child 1 tree)
  placed (If t x a b) p tree =
      kept_at p (kept_of tree) ++ placed x (suc p) (child 0 tree)
      ++ (if takes_first (kept_of tree)
      then placed a (suc p + size x) (child 1 tree)
      else placed b (suc p + size x + size a) (child 1 tree))
  placed (Let t a b) p tree = placed a (suc p) (child 0 tree) ++ placed b (suc p + size a) (child 1 tree)

  pub placed_all : Terms → ℕ → Trees → List (ℕ × LocalValue)
  placed_all NoMore p ks = []
  placed_all (More t ts) p ks = placed t p (nth_tree 0 ks) ++ placed_all ts (p + size t) (later_kids ks)

-- `[place, value]`
abbrev pub placed_data : ℕ × LocalValue → Data
placed_data x = array (items_of (whole_data x.0 ∷ value_data x.1 ∷ []))

-- a row: `{"id": n, "kept": [[place, value]], "value": value}`
abbrev pub row_data : Unfolding → Row → Data
row_data U r = object (
    member (codes "id") (whole_data r.0)
    (member (codes "kept") (array (items_of (map placed_data (placed U.main 0 r.1.tree))))
    (member (codes "value") (value_data r.1.value) no_members)))

-- a table: `{"format": 2, "rows": [row]}`
abbrev pub table_data : Unfolding → List Row → Data
table_data U rows = object (
    member (codes "format") (whole_data 2)
    (member (codes "rows") (array (items_of (map (row_data U) rows))) no_members))

-- the text of a table, without any space
abbrev pub table_text : Unfolding → List Row → List ℕ
table_text U rows = compact_text (table_data U rows)
