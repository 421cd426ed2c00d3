use Rattle.std.proofs.Common.{◌∙◌, sym, ap, map, length, option_map, option_and_then}
use Rattle.std.proofs.lemmas.List.{length-map}
use Rattle.serde_json.specs.View.{view}
use Rattle.net_json.specs.KeptItems.{place_and_value, placed_item}
use Rattle.net_json.proofs.Shapes.{no_place}
use Rattle.net_json.proofs.kept.placed_item.Goals as goal

pub returns-then-items-ne2 : goal.returns-then-items-ne2
returns-then-items-ne2 c =
    let list = c.in-Some.list.now.items in
    ap (option_map placed_item) (no_place (map view list) (λ e. c.if-items-ne2.true (ap length c.as_slice-items.ensures.value ∙ (sym (length-map list view) ∙ e))))
    ∙ ap (λ o. option_map placed_item (option_and_then place_and_value o)) c.in-Some.ensures
