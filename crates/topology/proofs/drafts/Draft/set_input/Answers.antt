use Rattle.std.proofs.Common.{◌≡◌, ◌∙◌, sym, ap, subst, length, map, set, arith, List, None}
use Rattle.std.proofs.lemmas.List.{length-map}
use Rattle.fc_values.specs.declared.types.InputDecl.{InputDecl}
use Rattle.fc_values.specs.Types.{input_of}
use Rattle.fc_values.specs.Values.{local_of}
use Rattle.topology.specs.declared.types.Device.{Device}
use Rattle.topology.specs.Networks.{Network, net_device_of}
use Rattle.topology.specs.Changes.{put_input, nth_fault, with_input}
use Rattle.topology.specs.Nearby.{drawn, items_of, AtPlace, IsDrawn}
use Rattle.topology.proofs.Drawing.{drawn_is, drawn_kept}
use Rattle.topology.proofs.Kept.{input_kept}
use Rattle.topology.proofs.Making.{nth_within, inputs_long, device_put}
use Rattle.topology.specs.contracts.drafts.Draft.{the_view}
use Rattle.topology.proofs.drafts.Draft.set_input.Goals as goal

pub put_input-requires : goal.put_input-requires
put_input-requires c =
    let n = the_view c.self.inside in
    let place : AtPlace (the_view c.self.inside) c.args.device c.in-Some.at = subst (λ v. AtPlace v c.args.device c.in-Some.at) (sym c.self.view_is) (record { within = c.in-Some.ensures.within; is = c.in-Some.ensures.there }) in
    let w = place.within in
    let fault : nth_fault (the_view c.self.inside).declared.inputs c.args.input (local_of c.args.value) ≡ None =
    ap (λ (is : List InputDecl). nth_fault (map input_of is) c.args.input (local_of c.args.value)) (sym c.deref.ensures.value) ∙ sym c.nth_fault.ensures ∙ c.in_default-nth_fault.is in
    omega (
      arith,
      nth_within (the_view c.self.inside).declared.inputs c.args.input (local_of c.args.value) fault,
      ap (λ (d : Device). length d.inputs.items) c.index_mut.ensures.value,
      inputs_long n.declared c.self.inside.devices.items c.in-Some.at c.index_mut.result.now c.self.invariant.network.devices (omega (arith, w, length-map c.self.inside.devices.items net_device_of)),
    )

pub invariant_of-self : goal.invariant_of-self
invariant_of-self c =
    let n = the_view c.self.inside in
    let place : AtPlace (the_view c.self.inside) c.args.device c.in-Some.at = subst (λ v. AtPlace v c.args.device c.in-Some.at) (sym c.self.view_is) (record { within = c.in-Some.ensures.within; is = c.in-Some.ensures.there }) in
    let w = place.within in
    let fault : nth_fault (the_view c.self.inside).declared.inputs c.args.input (local_of c.args.value) ≡ None =
    ap (λ (is : List InputDecl). nth_fault (map input_of is) c.args.input (local_of c.args.value)) (sym c.deref.ensures.value) ∙ sym c.nth_fault.ensures ∙ c.in_default-nth_fault.is in
    let devices : map net_device_of (set c.self.inside.devices.items c.in-Some.at c.put_input.new.device) ≡ put_input c.args.device c.args.input (local_of c.args.value) (map net_device_of c.self.inside.devices.items) =
    device_put c.self.inside.devices.items c.in-Some.at c.args.device c.args.input (local_of c.args.value) c.index_mut.result.now c.put_input.new.device c.self.invariant.network.rising
    (omega (arith, w, length-map c.self.inside.devices.items net_device_of)) place.is c.index_mut.ensures.value c.put_input.ensures.id c.put_input.ensures.inputs in
    subst (λ ds. IsDrawn (drawn (the_view c.self.inside).declared ds (map items_of c.self.inside.near.items)) (map items_of c.self.inside.near.items)) (sym devices)
    (drawn_kept (with_input (the_view c.self.inside) c.args.device c.args.input (local_of c.args.value)) _ (input_kept (the_view c.self.inside) c.self.inside.near.items c.self.invariant c.args.device c.args.input (local_of c.args.value) fault))

pub returns-clause-ok : goal.returns-clause-ok
returns-clause-ok c =
    let n = the_view c.self.inside in
    let place : AtPlace (the_view c.self.inside) c.args.device c.in-Some.at = subst (λ v. AtPlace v c.args.device c.in-Some.at) (sym c.self.view_is) (record { within = c.in-Some.ensures.within; is = c.in-Some.ensures.there }) in
    let w = place.within in
    let fault : nth_fault (the_view c.self.inside).declared.inputs c.args.input (local_of c.args.value) ≡ None =
    ap (λ (is : List InputDecl). nth_fault (map input_of is) c.args.input (local_of c.args.value)) (sym c.deref.ensures.value) ∙ sym c.nth_fault.ensures ∙ c.in_default-nth_fault.is in
    let devices : map net_device_of (set c.self.inside.devices.items c.in-Some.at c.put_input.new.device) ≡ put_input c.args.device c.args.input (local_of c.args.value) (map net_device_of c.self.inside.devices.items) =
    device_put c.self.inside.devices.items c.in-Some.at c.args.device c.args.input (local_of c.args.value) c.index_mut.result.now c.put_input.new.device c.self.invariant.network.rising
    (omega (arith, w, length-map c.self.inside.devices.items net_device_of)) place.is c.index_mut.ensures.value c.put_input.ensures.id c.put_input.ensures.inputs in
    ap (λ ds. drawn (the_view c.self.inside).declared ds (map items_of c.self.inside.near.items)) devices
    ∙ drawn_is (with_input (the_view c.self.inside) c.args.device c.args.input (local_of c.args.value)) _ (input_kept (the_view c.self.inside) c.self.inside.near.items c.self.invariant c.args.device c.args.input (local_of c.args.value) fault)
    ∙ ap (λ (v : Network). with_input v c.args.device c.args.input (local_of c.args.value)) c.self.view_is
