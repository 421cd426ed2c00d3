use Rattle.std.proofs.Common.{◌≡◌, ◌∙◌, sym, ap, subst, map, None, arith}
use Rattle.topology.specs.Networks.{net_device_of}
use Rattle.topology.specs.Changes.{drop_device, leave_fault, left}
use Rattle.topology.specs.Nearby.{drop_near, drawn, items_of, AtPlace, IsDrawn}
use Rattle.topology.proofs.NearEach.{map_remove, remove_device}
use Rattle.topology.proofs.Kept.{list_within, place_within, leave_kept}
use Rattle.topology.proofs.Drawing.{drawn_is, drawn_kept}
use Rattle.topology.specs.contracts.drafts.Draft.{the_view}
use Rattle.topology.proofs.drafts.Draft.drop_device.Goals as goal

pub remove-requires-2 : goal.remove-requires-2
remove-requires-2 c =
    let place : AtPlace (the_view c.self.inside) c.args.device c.args.at = subst (λ v. AtPlace v c.args.device c.args.at) (sym c.self.view_is) c.requires.place in
    let w = list_within (the_view c.self.inside) c.self.inside.near.items c.self.invariant c.args.device c.args.at place in
    omega (arith, c.self.inside.near.ok.0)

pub invariant_of-self : goal.invariant_of-self
invariant_of-self c =
    let place : AtPlace (the_view c.self.inside) c.args.device c.args.at = subst (λ v. AtPlace v c.args.device c.args.at) (sym c.self.view_is) c.requires.place in
    let none : leave_fault (the_view c.self.inside) c.args.device ≡ None = subst (λ v. leave_fault v c.args.device ≡ None) (sym c.self.view_is) c.requires.fault in
    let within = place_within (the_view c.self.inside) c.self.inside.near.items c.self.invariant c.args.device c.args.at place in
    let devices : map net_device_of c.remove.new.self.items ≡ drop_device c.args.device (map net_device_of c.self.inside.devices.items) =
    ap (map net_device_of) c.remove.ensures.items ∙ map_remove net_device_of c.self.inside.devices.items c.args.at
    ∙ remove_device c.args.device c.args.at (map net_device_of c.self.inside.devices.items) c.self.invariant.network.rising within place.is in
    let kept = leave_kept (the_view c.self.inside) c.self.inside.near.items c.self.invariant c.args.device c.args.at c.drop_from_each.new.near.items place none
    (c.drop_from_each.ensures ∙ ap (λ xs. map (λ ns. drop_near c.args.device ns) (map items_of xs)) c.remove-2.ensures.items) in
    subst (λ ds. IsDrawn (drawn (the_view c.self.inside).declared ds (map items_of c.drop_from_each.new.near.items)) (map items_of c.drop_from_each.new.near.items)) (sym devices)
    (drawn_kept (left (the_view c.self.inside) c.args.device) _ kept)

pub returns : goal.returns
returns c =
    let place : AtPlace (the_view c.self.inside) c.args.device c.args.at = subst (λ v. AtPlace v c.args.device c.args.at) (sym c.self.view_is) c.requires.place in
    let none : leave_fault (the_view c.self.inside) c.args.device ≡ None = subst (λ v. leave_fault v c.args.device ≡ None) (sym c.self.view_is) c.requires.fault in
    let within = place_within (the_view c.self.inside) c.self.inside.near.items c.self.invariant c.args.device c.args.at place in
    let devices : map net_device_of c.remove.new.self.items ≡ drop_device c.args.device (map net_device_of c.self.inside.devices.items) =
    ap (map net_device_of) c.remove.ensures.items ∙ map_remove net_device_of c.self.inside.devices.items c.args.at
    ∙ remove_device c.args.device c.args.at (map net_device_of c.self.inside.devices.items) c.self.invariant.network.rising within place.is in
    let kept = leave_kept (the_view c.self.inside) c.self.inside.near.items c.self.invariant c.args.device c.args.at c.drop_from_each.new.near.items place none
    (c.drop_from_each.ensures ∙ ap (λ xs. map (λ ns. drop_near c.args.device ns) (map items_of xs)) c.remove-2.ensures.items) in
    ap (λ ds. drawn (the_view c.self.inside).declared ds (map items_of c.drop_from_each.new.near.items)) devices
    ∙ drawn_is (left (the_view c.self.inside) c.args.device) _ kept ∙ ap (λ v. left v c.args.device) c.self.view_is
