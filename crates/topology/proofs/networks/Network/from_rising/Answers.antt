use Rattle.std.proofs.Common.{◌≡◌, ◌∙◌, sym, ap, subst, map, arith, take, drop, ◌++◌, ◌∷◌, List, get_or, suc, None}
use Rattle.std.proofs.lemmas.List.{length-map}
use Rattle.fc_values.specs.Types.{declarations_of}
use Rattle.topology.specs.declared.types.Link.{Link}
use Rattle.topology.specs.Networks.{Edge, IsNetwork, net_device_of, edge_of, network_of}
use Rattle.topology.specs.Changes.{link_fault, linked}
use Rattle.topology.proofs.Kept.{links_few}
use Rattle.topology.proofs.NextLink.{may_link, linked_is, no_refusal, up_to, parted}
use Rattle.topology.proofs.networks.Network.from_rising.Goals as goal

pub make_room-requires : goal.make_room-requires
make_room-requires c =
    let few = links_few (network_of (declarations_of c.args.declared) (map net_device_of c.args.devices.items) (map edge_of c.args.links.items)) c.requires in
    omega (arith, few, length-map c.args.devices.items net_device_of, length-map c.args.links.items edge_of, c.len.ensures, c.args.devices.ok.0)

pub loop-link-preserved : goal.loop-link-preserved
loop-link-preserved c =
    let D = declarations_of c.args.declared in
    let ns = map net_device_of c.args.devices.items in
    let xs = c.deref-link-items.result.now in
    let i = c.loop-link.link-index in
    let zero_link : Link = record { a = 0; b = 0; weight = 0 } in
    let x = get_or xs i zero_link in
    let ls = map edge_of (take i xs) in
    let ms = map edge_of (drop (suc i) xs) in
    let within = c.loop-link-test.true in
    let whole : map edge_of c.args.links.items ≡ ls ++ edge_of x ∷ ms = sym (ap (map edge_of) (c.deref-link-items.ensures.value ∙ c.make_room.ensures.links)) ∙ parted xs i zero_link within in
    let net : IsNetwork (network_of D ns (ls ++ edge_of x ∷ ms)) = subst (λ (es : List Edge). IsNetwork (network_of D ns es)) whole c.requires in
    let may : link_fault c.loop-link.draft x.a x.b x.weight ≡ None = ap (λ n. link_fault n x.a x.b x.weight) c.loop-link.invariant ∙ may_link D ns ls (edge_of x) ms net in
    no_refusal c.link.result (link_fault c.loop-link.draft x.a x.b x.weight) may c.link.ensures.refused c.link.ensures.ok
    ∙ ap (λ n. linked n x.a x.b x.weight) c.loop-link.invariant
    ∙ linked_is D ns ls (edge_of x) ms net
    ∙ ap (network_of D ns) (sym (up_to xs i _ zero_link (omega arith) within))
