use Rattle.std.proofs.Common.{◌∙◌, ap, map, arith, List}
use Rattle.std.specs.List.{prefix_len}
use Rattle.std.proofs.lemmas.List.{length-map}
use Rattle.topology.specs.declared.types.Link.{Link}
use Rattle.topology.specs.Networks.{edge_of}
use Rattle.topology.specs.Changes.{is_before}
use Rattle.topology.proofs.NearEach.{map_remove}
use Rattle.topology.proofs.Orders.{links_arranged, pair_removed}
use Rattle.topology.proofs.edits.drop_link.Goals as goal

pub remove-requires : goal.remove-requires
remove-requires c =
    let ls = map edge_of c.args.links.now.items in
    let at = c.room_for_link-at.ensures.value ∙ ap (λ (xs : List Link). prefix_len (is_before c.args.a c.args.b) (map edge_of xs)) c.deref.ensures.value in
    let h = pair_removed c.args.a c.args.b ls c.room_for_link-at.result (links_arranged c.args.a c.args.b ls c.requires.rising) c.requires.there at in
    omega (arith, h.0, length-map c.args.links.now.items edge_of, c.args.links.now.ok.0)

pub returns-clause-links : goal.returns-clause-links
returns-clause-links c =
    let ls = map edge_of c.args.links.now.items in
    let at = c.room_for_link-at.ensures.value ∙ ap (λ (xs : List Link). prefix_len (is_before c.args.a c.args.b) (map edge_of xs)) c.deref.ensures.value in
    let h = pair_removed c.args.a c.args.b ls c.room_for_link-at.result (links_arranged c.args.a c.args.b ls c.requires.rising) c.requires.there at in
    ap (map edge_of) c.remove.ensures.items ∙ map_remove edge_of c.args.links.now.items c.room_for_link-at.result ∙ h.1
