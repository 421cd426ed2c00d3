use Rattle.std.proofs.Common.{◌≡◌, ◌∙◌, sym, ap, map, [], replicate}
use Rattle.std.proofs.lemmas.List.{length-map}
use Rattle.fc_values.specs.Types.{declarations_of}
use Rattle.topology.specs.Networks.{net_device_of, network_of, numbers}
use Rattle.topology.specs.Nearby.{near_each, items_of, IsDrawn}
use Rattle.topology.proofs.Drawing.{drawn_is, drawn_kept}
use Rattle.topology.proofs.Kept.{numbers_long}
use Rattle.topology.proofs.Making.{no_near}
use Rattle.topology.proofs.drafts.Draft.new.Goals as goal

pub invariant_of-result : goal.invariant_of-result
invariant_of-result c =
    let ns = map net_device_of c.args.devices.items in
    let long = c.len.ensures ∙ c.args.devices.ok.0 ∙ sym (length-map c.args.devices.items net_device_of) ∙ sym (numbers_long ns) in
    let near : map items_of c.in_ok-near.near.items ≡ near_each (numbers ns) [] = c.in_ok-near.ensures ∙ ap (λ m. replicate m []) long ∙ no_near (numbers ns) in
    let kept : IsDrawn (network_of (declarations_of c.args.declared) ns []) (map items_of c.in_ok-near.near.items) = record { network = c.requires; near = near } in
    drawn_kept (network_of (declarations_of c.args.declared) (map net_device_of c.args.devices.items) []) _ kept

pub returns : goal.returns
returns c =
    let ns = map net_device_of c.args.devices.items in
    let long = c.len.ensures ∙ c.args.devices.ok.0 ∙ sym (length-map c.args.devices.items net_device_of) ∙ sym (numbers_long ns) in
    let near : map items_of c.in_ok-near.near.items ≡ near_each (numbers ns) [] = c.in_ok-near.ensures ∙ ap (λ m. replicate m []) long ∙ no_near (numbers ns) in
    let kept : IsDrawn (network_of (declarations_of c.args.declared) ns []) (map items_of c.in_ok-near.near.items) = record { network = c.requires; near = near } in
    drawn_is (network_of (declarations_of c.args.declared) (map net_device_of c.args.devices.items) []) _ kept
