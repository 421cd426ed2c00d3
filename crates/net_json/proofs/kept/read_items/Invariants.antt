use Rattle.std.proofs.Common.{◌≡◌, map, drop, []}
use Rattle.serde_json.specs.View.{view, items_of}
use Rattle.net_json.specs.PlaceCode.{path_of}
use Rattle.net_json.specs.Judging.{in_turn}
use Rattle.net_json.specs.KeptItems.{kept_judged}
use Rattle.value_trees.specs.KeptItems.{kept_of}
use Rattle.net_json.specs.KeptCode.{item_by}
use Rattle.net_json.proofs.kept.read_items.Given as goal

abbrev pub invariant-loop-i : goal.invariant-loop-i
invariant-loop-i l =
    in_turn (kept_judged (item_by l.format)) (path_of l.here) [] 0 (items_of (map view l.items))
    ≡ in_turn (kept_judged (item_by l.format)) (path_of l.here) (map kept_of l.found.items) l.i (items_of (map view (drop l.i l.items)))
