-- The JSON value of a table is not deep: no value of a program is.
use Rattle.std.proofs.Common.{ℕ, suc, ◌<◌, ◌≤◌, List, [], ◌∷◌, map, arith}
use Rattle.std.specs.Borrow.{Bor}
use Rattle.std.specs.List.{All}
use Rattle.std.proofs.lemmas.List.Elements.{All-nil, All-cons}
use Rattle.serde_json.specs.Data.{depth, items_depth}
use Rattle.serde_json.specs.Read.{max_depth}
use Rattle.serde_json.specs.View.{items_of}
use Rattle.fc_values.specs.Types.{LocalType, IntType, BoolType, PairType, leaves}
use Rattle.fc_values.specs.Values.{LocalValue, IntValue, BoolValue, PairValue, Fits}
use Rattle.fc_values.specs.BuiltinTypes.{inner}
use Rattle.fc_nodes.specs.Terms.{term_type}
use Rattle.fc_nodes.specs.Program.{Unfolding}
use Rattle.fc_nodes.specs.Flat.{IsWellTyped}
use Rattle.fc_nodes.specs.Typing.{HasType}
use Rattle.fc_values.specs.declared.exports.Export.{Export}
use Rattle.value_trees.specs.Snaps.{IsExportOf}
use Rattle.net_json.specs.SceneCode.{borrowed_row}
use Rattle.net_json.specs.Tables.{Row}
use Rattle.net_json.specs.TableTexts.{value_data, placed, placed_data, row_data, table_data}
use Rattle.fc_nodes.proofs.NarrowTypes.{IsNarrow, term_narrow}
use Rattle.net_json.proofs.TakenBack.{AllAre, tree_back}

-- a value is less deep than its type has leaves
value_depth : (c : ℕ) (s : LocalType) (v : LocalValue) → Fits c s v → depth (value_data v) < leaves s
value_depth c IntType (IntValue n) h = omega arith
value_depth c BoolType (BoolValue b) h = omega arith
value_depth c (PairType s t) (PairValue a b) h =
    let e = value_depth c s a h.0 in
    let f = value_depth c t b h.1 in
    omega (arith, e, f)
value_depth c s v h = absurd h

record IsShallow (v : LocalValue) : Type 0 where
  pub few : depth (value_data v) ≤ 7

shallow : (c : ℕ) (s : LocalType) (v : LocalValue) → IsNarrow s → Fits c s v → IsShallow v
shallow c s v n h = let l = value_depth c s v h in let m = n.few in record { few = omega (arith, l, m) }

placed_depth : (xs : List (ℕ × LocalValue)) → AllAre IsShallow xs → items_depth (items_of (map placed_data xs)) ≤ 8
placed_depth [] h = omega arith
placed_depth (x ∷ xs) h =
    let l = h.0.few in
    let ih = placed_depth xs h.1 in
    omega (arith, l, ih)

module _ (U : Unfolding) (typed : HasType U.declared [] 0 U.main) where
  row_depth : (r : Row) → IsWellTyped U r.1 → depth (row_data U r) ≤ 10
  row_depth r h =
      let c = U.declared.ceiling in
      let n = term_narrow U.declared [] 0 U.main typed tt in
      let b = tree_back c IsNarrow IsShallow (shallow c) U.main 0 r.1.tree n.1 h.tree in
      let k = placed_depth (placed U.main 0 r.1.tree) b.values in
      let v = shallow c (inner (term_type U.main)) r.1.value n.0 h.value in
      let l = v.few in
      omega (arith, k, l)

  rows_depth : (rows : List Row) → All (λ (r : Row). IsWellTyped U r.1) rows → items_depth (items_of (map (row_data U) rows)) ≤ 10
  rows_depth [] h = omega arith
  rows_depth (r ∷ rs) h =
      let l = row_depth r (h 0 r (omega arith)) in
      let ih = rows_depth rs (λ i d k. h (suc i) d (omega arith)) in
      omega (arith, l, ih)

  pub table_depth : (rows : List Row) → All (λ (r : Row). IsWellTyped U r.1) rows → depth (table_data U rows) ≤ max_depth
  table_depth rows h = let l = rows_depth rows h in omega (arith, l)

-- ---- rows in code

pub rows_typed : (U : Unfolding) (rows : List (ℕ × Bor Export)) → All (λ (r : ℕ × Bor Export). IsExportOf U r.1.now) rows → All (λ (r : Row). IsWellTyped U r.1) (map (borrowed_row U) rows)
rows_typed U [] h = All-nil (λ (r : Row). IsWellTyped U r.1)
rows_typed U (r ∷ rs) h =
    let first = h 0 r (omega arith) in
    All-cons (λ (s : Row). IsWellTyped U s.1) (borrowed_row U r) (map (borrowed_row U) rs) first.typed (rows_typed U rs (λ i d l. h (suc i) d (omega arith)))
