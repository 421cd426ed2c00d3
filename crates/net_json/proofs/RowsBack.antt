-- A table that was written is read back, row by row.
use Rattle.std.proofs.Common.{◌≡◌, ℕ, suc, ◌+◌, ◌<◌, ◌≤◌, List, [], ◌∷◌, ◌++◌, map, refl, sym, ◌∙◌, ap, arith, false, append_assoc, append-nil, nat_lt, min, Some}
use Rattle.std.specs.List.{All}
use Rattle.std.specs.Prelude.{codes}
use Rattle.std.proofs.lemmas.Bool.{lt-ltb, ne_eqb}
use Rattle.serde_json.specs.View.{items_of}
use Rattle.serde_json.proofs.OnLiterals.{serde_json_on_literals}
use Rattle.fc_values.specs.Fields.{Rises, is_in}
use Rattle.fc_values.specs.Trees.{TreeExport}
use Rattle.fc_values.specs.Types.{LocalType, IntType, BoolType, PairType}
use Rattle.fc_values.specs.Values.{LocalValue, IntValue, BoolValue, PairValue, Fits}
use Rattle.fc_values.specs.BuiltinTypes.{inner}
use Rattle.fc_nodes.specs.Terms.{term_type, Term, Terms, Plain, Apply, Nbr, Evolve, If, Let, NoMore, More}
use Rattle.fc_nodes.specs.Program.{Unfolding}
use Rattle.fc_nodes.specs.Flat.{IsWellTyped}
use Rattle.value_trees.proofs.ReadBack.{type_had}
use Rattle.topology.specs.Networks.{Network, Lives}
use Rattle.fc_values.specs.Lists.{insert_after}
use Rattle.net_json.specs.Reading.{value_of}
use Rattle.net_json.specs.Judging.{JudgedScene, Accepted, if_accepted, in_turn, gather_one, at_index, at_member}
use Rattle.value_trees.specs.KeptItems.{KeptItem, take_tree}
use Rattle.net_json.specs.KeptItems.{placed_item, kept_judged, item_of_places}
use Rattle.net_json.specs.Exports.{whole_export, export_judged}
use Rattle.net_json.specs.Tables.{Row, row_number, row_form, row_judged, rows_judged, second_format}
use Rattle.net_json.specs.TableTexts.{value_data, placed, placed_data, row_data, table_data}
use Rattle.net_json.specs.ReadingBack.{TablesReadBack}
use Rattle.fc_values.proofs.Rising.{rises_tail}
use Rattle.fc_nodes.proofs.NarrowTypes.{Keeps, AllKeep}
use Rattle.net_json.proofs.TakenBack.{AllAre, items, tree_back}

-- ---- values

-- a value is read back from its JSON value
record IsReadable (v : LocalValue) : Type 0 where
  pub back : value_of (value_data v) ≡ Some v

readable : (c : ℕ) (s : LocalType) (v : LocalValue) → c ≤ 1000000 → Fits c s v → IsReadable v
readable c IntType (IntValue n) l h =
    let e : min n 4294967295 ≡ n = omega arith in
    record { back = ap (λ (m : ℕ). Some (IntValue m)) e }
readable c BoolType (BoolValue b) l h = record { back = refl }
readable c (PairType s t) (PairValue a b) l h =
    let r = readable c s a l h.0 in
    let r' = readable c t b l h.1 in
    let e = r.back in
    let f = r'.back in
    record { back = rw (e, f) refl }
readable c s v l h = absurd h

-- every type will do
abbrev AnyType : LocalType → Type 0
AnyType s = Unit {0}

mutual
  keeps_any : (t : Term) → Keeps AnyType t
  keeps_any (Plain t l) = tt
  keeps_any (Apply t o xs) = all_keep_any xs
  keeps_any (Nbr t a) = (tt, keeps_any a)
  keeps_any (Evolve t e a b) = (tt, keeps_any a, keeps_any b)
  keeps_any (If t x a b) = (tt, keeps_any x, keeps_any a, keeps_any b)
  keeps_any (Let t a b) = (keeps_any a, keeps_any b)

  all_keep_any : (xs : Terms) → AllKeep AnyType xs
  all_keep_any NoMore = tt
  all_keep_any (More x xs) = (keeps_any x, all_keep_any xs)

-- ---- kept lists

item_read : (x : ℕ × LocalValue) → IsReadable x.1 → (before : List KeptItem) (path : List ℕ) → kept_judged item_of_places before path (placed_data x) ≡ Accepted (before ++ placed_item x ∷ [])
item_read x h before path = let e = h.back in rw e refl

items_read : (path : List ℕ) (xs : List (ℕ × LocalValue)) (before : List KeptItem) (i : ℕ) → AllAre IsReadable xs → in_turn (kept_judged item_of_places) path before i (items_of (map placed_data xs)) ≡ Accepted (before ++ items xs)
items_read path [] before i h = ap Accepted (sym (append-nil before))
items_read path (x ∷ xs) before i h =
    ap (λ (j : JudgedScene (List KeptItem)). if_accepted j (λ next. in_turn (kept_judged item_of_places) path next (i + 1) (items_of (map placed_data xs)))) (item_read x h.0 before (at_index path i))
    ∙ items_read path xs (before ++ placed_item x ∷ []) (i + 1) h.1
    ∙ ap Accepted (append_assoc before (placed_item x ∷ []) (items xs))

-- ---- exports

module _ (U : Unfolding) (low : U.declared.ceiling ≤ 1000000) (path : List ℕ) where
  export_back : (e : TreeExport) → IsWellTyped U e → export_judged U item_of_places path e.value (items_of (map placed_data (placed U.main 0 e.tree))) ≡ Accepted e
  export_back e h =
      let c = U.declared.ceiling in
      let xs = placed U.main 0 e.tree in
      let b = tree_back c AnyType IsReadable (λ s v q k. readable c s v low k) U.main 0 e.tree (keeps_any U.main) h.tree in
      let fits = type_had c (inner (term_type U.main)) e.value h.value in
      let read = items_read (at_member path (codes "kept")) xs [] 0 b.values in
      let taken : take_tree c U.main 0 (items xs) ≡ take_tree c U.main 0 (items xs ++ []) = ap (take_tree c U.main 0) (sym (append-nil (items xs))) in
      rw fits (
      ap (λ (j : JudgedScene (List KeptItem)). if_accepted j (λ ys. whole_export U path e.value (take_tree c U.main 0 ys))) read
      ∙ ap (whole_export U path e.value) (taken ∙ b.taken []))

-- ---- rows

-- the form of a row that was written
form_back : (U : Unfolding) (path : List ℕ) (r : Row) → IsReadable r.1.value → row_form path (row_data U r) ≡ Accepted (record { id = r.0; value = r.1.value; kept = items_of (map placed_data (placed U.main 0 r.1.tree)) })
unfolding serde_json_on_literals
form_back U path r h = let e = h.back in rw e refl

-- numbers that are all below another
abbrev AllBelow : ℕ → List Row → Type 0
AllBelow d [] = Unit {0}
AllBelow d (r ∷ rs) = (r.0 < d) × AllBelow d rs

below_apart : (d : ℕ) (rs : List Row) → AllBelow d rs → is_in d (map row_number rs) ≡ false
below_apart d [] h = refl
below_apart d (r ∷ rs) h = let l = h.0 in rw (ne_eqb d r.0 (λ e. absurd (omega (arith, l, e)))) (below_apart d rs h.1)

-- a row whose number is above those of all others comes last
put_last : (r : Row) (rs : List Row) → AllBelow r.0 rs → insert_after (λ (y : Row). nat_lt (row_number y) (row_number r)) r rs ≡ rs ++ r ∷ []
put_last r [] h = refl
put_last r (s ∷ rs) h = rw (lt-ltb s.0 r.0 h.0) (ap (λ (ts : List Row). s ∷ ts) (put_last r rs h.1))

below_more : (d : ℕ) (r : Row) (rs : List Row) → r.0 < d → AllBelow r.0 rs → AllBelow d (rs ++ r ∷ [])
below_more d r [] l h = (l, tt)
below_more d r (s ∷ rs) l h = let k = h.0 in (omega (arith, k, l), below_more d r rs l h.1)

-- the next of rising rows is above all before it
abbrev NextBelow : List Row → List Row → Type 0
NextBelow before [] = Unit {0}
NextBelow before (r ∷ rs) = AllBelow r.0 before

next_below : (before : List Row) (r : Row) (rs : List Row) → AllBelow r.0 before → Rises (map row_number (r ∷ rs)) → NextBelow (before ++ r ∷ []) rs
next_below before r [] h k = tt
next_below before r (s ∷ rs) h k = below_more s.0 r before k.0 h

module _ (U : Unfolding) (n : Network) (low : U.declared.ceiling ≤ 1000000) where
  row_back : (path : List ℕ) (before : List Row) (r : Row) → AllBelow r.0 before → Lives n r.0 → IsWellTyped U r.1 → row_judged U n item_of_places (map row_number before) path (row_data U r) ≡ Accepted r
  row_back path before r h there typed =
      let c = U.declared.ceiling in
      let apart = below_apart r.0 before h in
      let export = export_back U low path r.1 typed in
      rw (form_back U path r (readable c (inner (term_type U.main)) r.1.value low typed.value), there, apart, export) refl

  rows_back : (path : List ℕ) (rows before : List Row) (i : ℕ) → NextBelow before rows → Rises (map row_number rows) → All (λ (r : Row). Lives n r.0) rows → All (λ (r : Row). IsWellTyped U r.1) rows
      → in_turn (gather_one row_number (row_judged U n item_of_places)) path before i (items_of (map (row_data U) rows)) ≡ Accepted (before ++ rows)
  rows_back path [] before i b r l t = ap Accepted (sym (append-nil before))
  rows_back path (x ∷ xs) before i b r l t =
      let judge = gather_one row_number (row_judged U n item_of_places) in
      let one : judge before (at_index path i) (row_data U x) ≡ Accepted (before ++ x ∷ [])
      = ap (λ (j : JudgedScene Row). if_accepted j (λ y. Accepted (insert_after (λ z. nat_lt (row_number z) (row_number y)) y before))) (row_back (at_index path i) before x b (l 0 x (omega arith)) (t 0 x (omega arith)))
      ∙ ap Accepted (put_last x before b) in
      ap (λ (j : JudgedScene (List Row)). if_accepted j (λ next. in_turn judge path next (i + 1) (items_of (map (row_data U) xs)))) one
      ∙ rows_back path xs (before ++ x ∷ []) (i + 1) (next_below before x xs b r) (rises_tail x.0 (map row_number xs) r) (λ k d m. l (suc k) d (omega arith)) (λ k d m. t (suc k) d (omega arith))
      ∙ ap Accepted (append_assoc before (x ∷ []) xs)

-- ---- tables

-- the rows in a table that was written
format_back : (U : Unfolding) (path : List ℕ) (rows : List Row) → second_format path (table_data U rows) ≡ Accepted (items_of (map (row_data U) rows))
unfolding serde_json_on_literals
format_back U path rows = refl

none_below : (rows : List Row) → NextBelow [] rows
none_below [] = tt
none_below (r ∷ rs) = tt

pub table_back : TablesReadBack
table_back U n path rows low h =
    ap (λ (j : JudgedScene _). if_accepted j (λ ds. rows_judged U n item_of_places (at_member path (codes "rows")) ds)) (format_back U path rows)
    ∙ rows_back U n low (at_member path (codes "rows")) rows [] 0 (none_below rows) h.rising h.there h.exports
