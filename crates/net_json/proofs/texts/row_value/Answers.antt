use Rattle.std.proofs.Common.{ℕ, List, ◌∙◌, ap, map, length, arith}
use Rattle.std.specs.Prelude.{codes}
use Rattle.std.proofs.lemmas.List.{length-map}
use Rattle.serde_json.specs.Data.{Data, array, object, member, no_members}
use Rattle.serde_json.specs.View.{view, items_of}
use Rattle.fc_values.specs.declared.exports.Slot.{Slot}
use Rattle.fc_values.specs.Exports.{slot_of, slots_of, export_of}
use Rattle.fc_values.specs.Values.{LocalValue}
use Rattle.fc_nodes.specs.Program.{unfolding_of}
use Rattle.value_trees.specs.Snaps.{tree_of}
use Rattle.net_json.specs.Placing.{placed_slots, kept_places}
use Rattle.net_json.specs.TableTexts.{whole_data, placed_data, placed}
use Rattle.net_json.proofs.Placings.{as_many, export_placed}
use Rattle.net_json.proofs.texts.row_value.Goals as goal

pub kept_value-requires : goal.kept_value-requires
kept_value-requires c =
    let U = unfolding_of c.args.program.now in
    let e = ap (length {A = ℕ}) c.requires.places in
    let d = ap (length {A = Slot}) c.deref.ensures.value in
    let n = as_many U (export_of c.args.export.now) c.requires.export in
    let m = length-map c.args.export.now.slots.list.items slot_of in
    omega (arith, e, d, n, m)

pub returns : goal.returns
returns c =
    let U = unfolding_of c.args.program.now in
    let e = c.args.export.now in
    let kept = c.in_ok-kept.ensures
    ∙ ap (λ (ps : List ℕ). array (items_of (map placed_data (placed_slots ps (slots_of c.deref.result.now))))) c.requires.places
    ∙ ap (λ (ss : List Slot). array (items_of (map placed_data (placed_slots (kept_places U.main 0) (slots_of ss))))) c.deref.ensures.value
    ∙ ap (λ (xs : List (ℕ × LocalValue)). array (items_of (map placed_data xs))) (export_placed U (export_of e) c.requires.export) in
    c.in_ok-row.ensures
    ∙ ap (λ (k : Data). object (member (codes "id") (whole_data c.args.id) (member (codes "kept") k (member (codes "value") (view c.in_ok-value.value) no_members)))) kept
    ∙ ap (λ (v : Data). object (member (codes "id") (whole_data c.args.id) (member (codes "kept") (array (items_of (map placed_data (placed U.main 0 (tree_of U e).tree)))) (member (codes "value") v no_members)))) c.in_ok-value.ensures
