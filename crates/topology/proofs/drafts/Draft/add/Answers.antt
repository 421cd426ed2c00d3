use Rattle.std.proofs.Common.{◌≡◌, ◌∙◌, refl, sym, ap, subst, List, map, None, length, nat_lt, arith, is_ok, true}
use Rattle.std.specs.List.{insert, prefix_len}
use Rattle.std.proofs.lemmas.List.{length-map}
use Rattle.topology.specs.declared.types.Device.{Device}
use Rattle.topology.specs.Networks.{NetDevice, net_device_of}
use Rattle.topology.specs.Changes.{join_fault, joined}
use Rattle.topology.proofs.Kept.{lists_long, add_kept}
use Rattle.topology.specs.contracts.drafts.Draft.{the_view}
use Rattle.topology.proofs.drafts.Draft.add.Goals as goal

pub insert-requires-2 : goal.insert-requires-2
insert-requires-2 c =
    let long = lists_long (the_view c.self.inside) c.self.inside.near.items c.self.invariant in
    omega (arith, long, length-map c.self.inside.devices.items net_device_of, c.room_for_device-at.ensures.within, ap length c.deref.ensures.value, c.reserve.ensures.len, c.self.inside.near.ok.0)

pub invariant_of-self-2 : goal.invariant_of-self-2
invariant_of-self-2 c =
    let place = c.room_for_device-at.ensures.value ∙ ap (λ (xs : List Device). prefix_len (λ (d : NetDevice). nat_lt d.id c.args.device.id) (map net_device_of xs)) c.deref.ensures.value in
    let put : c.insert.new.self.items ≡ insert c.self.inside.devices.items c.room_for_device-at.result c.args.device = rw c.if-is_err.ensures.negation at c.insert.ensures.items in
    let ok : is_ok c.insert-2.result ≡ true = c.insert-2.ensures.succeeds (let free = c.in_ok-reserve.ensures.ok in omega arith) in
    let near : c.insert-2.new.self.items ≡ insert c.self.inside.near.items c.room_for_device-at.result c.new.result =
    (rw ok at c.insert-2.ensures.items) ∙ ap (λ xs. insert xs c.room_for_device-at.result c.new.result) c.reserve.ensures.items in
    let none : join_fault (the_view c.self.inside) (net_device_of c.args.device) ≡ None = subst (λ v. join_fault v (net_device_of c.args.device) ≡ None) (sym c.self.view_is) c.requires.fault in
    let added = add_kept (the_view c.self.inside) c.self.inside.near.items c.self.invariant c.args.device c.room_for_device-at.result c.self.inside.devices.items c.insert.new.self.items c.insert-2.new.self.items c.new.result refl c.requires.small none place put near c.new.ensures in
    added.0

pub returns-clause-ok : goal.returns-clause-ok
returns-clause-ok c =
    let place = c.room_for_device-at.ensures.value ∙ ap (λ (xs : List Device). prefix_len (λ (d : NetDevice). nat_lt d.id c.args.device.id) (map net_device_of xs)) c.deref.ensures.value in
    let put : c.insert.new.self.items ≡ insert c.self.inside.devices.items c.room_for_device-at.result c.args.device = rw c.if-is_err.ensures.negation at c.insert.ensures.items in
    let ok : is_ok c.insert-2.result ≡ true = c.insert-2.ensures.succeeds (let free = c.in_ok-reserve.ensures.ok in omega arith) in
    let near : c.insert-2.new.self.items ≡ insert c.self.inside.near.items c.room_for_device-at.result c.new.result =
    (rw ok at c.insert-2.ensures.items) ∙ ap (λ xs. insert xs c.room_for_device-at.result c.new.result) c.reserve.ensures.items in
    let none : join_fault (the_view c.self.inside) (net_device_of c.args.device) ≡ None = subst (λ v. join_fault v (net_device_of c.args.device) ≡ None) (sym c.self.view_is) c.requires.fault in
    let added = add_kept (the_view c.self.inside) c.self.inside.near.items c.self.invariant c.args.device c.room_for_device-at.result c.self.inside.devices.items c.insert.new.self.items c.insert-2.new.self.items c.new.result refl c.requires.small none place put near c.new.ensures in
    added.1 ∙ ap (λ v. joined v (net_device_of c.args.device)) c.self.view_is
