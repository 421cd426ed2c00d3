use Rattle.std.proofs.Common.{◌≡◌, ◌∙◌, sym, ap, subst, length, map, arith, is_ok, true, false, ◌<◌, get_or, List}
use Rattle.std.specs.List.{insert, prefix_len}
use Rattle.std.proofs.lemmas.List.{length-map, map-set, get_or-map}
use Rattle.topology.specs.declared.types.Link.{Link}
use Rattle.topology.specs.Networks.{Edge, edge_of}
use Rattle.topology.specs.Changes.{is_before, is_pair, drop_pair, insert_edge}
use Rattle.topology.proofs.Lists.{map_insert}
use Rattle.topology.proofs.Orders.{links_arranged}
use Rattle.topology.proofs.Replaced.{put_there, not_there}
use Rattle.topology.proofs.edits.put_link.Goals as goal
use Rattle.topology.proofs.edits.put_link.Goals.{else-at-len-via-then-at-len+else-is_of_pair, else-at-len-via-else-at-len}
use Rattle.fc_values.proofs.Lists.{insert_length, insert_prefix}

pub returns-then-is_of_pair-clause-links : goal.returns-then-is_of_pair-clause-links
returns-then-is_of_pair-clause-links c =
    let before = is_before c.args.link.a c.args.link.b in
    let pair = is_pair c.args.link.a c.args.link.b in
    let ls = map edge_of c.args.links.now.items in
    let within : c.room_for_link-at.result < length c.args.links.now.items = omega (arith, c.if-at-len.true, c.len.ensures, c.args.links.now.ok.0) in
    let at = c.room_for_link-at.ensures.value ∙ ap (λ (xs : List Link). prefix_len before (map edge_of xs)) c.deref.ensures.value in
    let here = ap edge_of c.index.ensures ∙ sym (get_or-map edge_of c.args.links.now.items c.room_for_link-at.result c.index.result.now (edge_of c.index.result.now) within) in
    map-set edge_of c.args.links.now.items c.room_for_link-at.result c.args.link
    ∙ put_there before pair (edge_of c.args.link) (edge_of c.index.result.now) ls c.room_for_link-at.result (links_arranged c.args.link.a c.args.link.b ls c.requires.rising) at
    (omega (arith, within, length-map c.args.links.now.items edge_of))
    (subst (λ (l : Edge). is_pair c.args.link.a c.args.link.b l ≡ true) here (sym c.is_of_pair.ensures ∙ c.if-is_of_pair.true))

pub returns-else-at-len-clause-links : goal.returns-else-at-len-clause-links
returns-else-at-len-clause-links c =
    let before = is_before c.args.link.a c.args.link.b in
    let pair = is_pair c.args.link.a c.args.link.b in
    let e = edge_of c.args.link in
    let ls = map edge_of c.args.links.now.items in
    let at = c.room_for_link-at.ensures.value ∙ ap (λ (xs : List Link). prefix_len before (map edge_of xs)) c.deref.ensures.value in
    let absent : c.room_for_link-at.result < length ls → is_pair c.args.link.a c.args.link.b (get_or ls c.room_for_link-at.result e) ≡ true → ⊥ =
    elim c.else-at-len.branch [
      | else-at-len-via-then-at-len+else-is_of_pair w ↦ λ h t.
          let within : c.room_for_link-at.result < length c.args.links.now.items = omega (arith, h, length-map c.args.links.now.items edge_of) in
          let here = get_or-map edge_of c.args.links.now.items c.room_for_link-at.result w.index.result.now e within ∙ ap edge_of (sym w.index.ensures) in
          let no : is_pair c.args.link.a c.args.link.b (edge_of w.index.result.now) ≡ false = sym w.is_of_pair.ensures ∙ w.if-is_of_pair.false in
          let yes : is_pair c.args.link.a c.args.link.b (edge_of w.index.result.now) ≡ true = subst (λ (l : Edge). is_pair c.args.link.a c.args.link.b l ≡ true) here t in
          absurd cc
      | else-at-len-via-else-at-len w ↦ λ h t. absurd (omega (arith, w.if-at-len.false, c.len.ensures, c.args.links.now.ok.0, length-map c.args.links.now.items edge_of))
    ] in
    let same : drop_pair c.args.link.a c.args.link.b ls ≡ ls = not_there before pair e ls c.room_for_link-at.result (links_arranged c.args.link.a c.args.link.b ls c.requires.rising) at absent in
    let ok : is_ok c.insert.result ≡ true = c.insert.ensures.succeeds (omega (
      arith,
      insert_length before e (drop_pair c.args.link.a c.args.link.b ls),
      ap length same,
      length-map c.args.links.now.items edge_of,
      c.requires.room,
      c.args.links.now.ok.0,
    )) in
    let put : c.insert.new.self.items ≡ insert c.args.links.now.items c.room_for_link-at.result c.args.link = rw ok at c.insert.ensures.items in
    ap (map edge_of) put
    ∙ map_insert edge_of c.args.links.now.items c.room_for_link-at.result c.args.link
    ∙ ap (λ k. insert ls k e) at
    ∙ insert_prefix before e ls
    ∙ ap (insert_edge e) (sym same)
