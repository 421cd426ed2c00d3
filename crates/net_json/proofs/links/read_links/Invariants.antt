use Rattle.std.proofs.Common.{◌≡◌, map, drop}
use Rattle.serde_json.specs.View.{view, items_of}
use Rattle.net_json.specs.PlaceCode.{path_of}
use Rattle.net_json.specs.Judging.{in_turn}
use Rattle.net_json.specs.Links.{link_judged}
use Rattle.net_json.proofs.links.read_links.Given as goal

abbrev pub invariant-loop-i : goal.invariant-loop-i
invariant-loop-i l = record {
  whole : in_turn link_judged (path_of l.here) l.fn.draft 0 (items_of (map view l.items))
      ≡ in_turn link_judged (path_of l.here) l.draft l.i (items_of (map view (drop l.i l.items)));
  declared : l.draft.declared ≡ l.fn.draft.declared;
}
