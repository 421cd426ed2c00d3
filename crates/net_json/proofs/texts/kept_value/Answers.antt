use Rattle.std.proofs.Common.{ℕ, ◌+◌, List, ◌∙◌, sym, ap, map, drop, get_or, ◌++◌, arith, append-nil}
use Rattle.std.proofs.lemmas.List.{drop_all}
use Rattle.serde_json.specs.Data.{Data, array}
use Rattle.serde_json.specs.View.{view, items_of}
use Rattle.serde_json.proofs.Views.{view-Array}
use Rattle.fc_values.specs.Exports.{slots_of}
use Rattle.fc_values.specs.Values.{LocalValue, local_of}
use Rattle.net_json.specs.Placing.{placed_slots}
use Rattle.net_json.specs.TableTexts.{placed_data}
use Rattle.net_json.proofs.Placings.{slot_step, more_behind, more_data}
use Rattle.net_json.proofs.texts.kept_value.Goals as goal

pub loop-i-preserved : goal.loop-i-preserved
loop-i-preserved c =
    let ps = c.args.places.now in
    let ss = c.args.slots.now in
    let i = c.loop-i.i in
    let s = c.index-slots-i.result in
    let rest = placed_slots (drop (i + 1) ps) (slots_of (drop (i + 1) ss)) in
    let old = map view c.loop-i.list.items in
    let q = c.requires in
    ap (λ (us : List Data). us ++ map placed_data rest) c.in_ok-push_kept.ensures
    ∙ more_behind s.kept (placed_data (get_or ps i 0, local_of s.value)) old (map placed_data rest)
    ∙ ap (λ (us : List Data). old ++ us) (sym (more_data placed_data s.kept (get_or ps i 0, local_of s.value) rest))
    ∙ ap (λ (us : List (ℕ × LocalValue)). old ++ map placed_data us) (sym (slot_step ps ss i (i + 1) s (omega (arith, q)) (omega arith) c.index-slots-i.is (omega arith)))
    ∙ c.loop-i.invariant

pub returns : goal.returns
returns c =
    let ps = c.args.places.now in
    let ss = c.args.slots.now in
    let i = c.loop-i.i in
    let q = c.requires in
    let old = map view c.loop-i.list.items in
    view-Array c.loop-i.list
    ∙ ap (λ (us : List Data). array (items_of us))
    (sym (append-nil old) ∙ ap (λ (qs : List ℕ). old ++ map placed_data (placed_slots qs (slots_of (drop i ss)))) (sym (drop_all i ps (omega (arith, q)))) ∙ c.loop-i.invariant)
