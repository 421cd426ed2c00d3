use Rattle.std.proofs.Common.{ℕ, ◌≡◌, ◌≤◌, ◌<◌, ◌∙◌, [], ◌∷◌, ◌++◌, List, sym, ap, arith, add-one, length, map, take, get_or}
use Rattle.std.proofs.lemmas.List.{length-map}
use Rattle.fc_values.specs.Values.{LocalValue, local_of}
use Rattle.fc_values.specs.Fields.{Entries}
use Rattle.topology.specs.declared.types.Device.{Device}
use Rattle.topology.specs.Networks.{NetDevice, Network, net_device_of, numbers}
use Rattle.stable_field.proofs.Beginning.{number_at}
use Rattle.stable_field.proofs.Firings.{have_at, have_long, map_more, take_whole}
use Rattle.stable_field.proofs.fields.values.Goals as goal

many : (N : Network) (ds : List Device) → map net_device_of ds ≡ N.devices → length (numbers N.devices) ≡ length ds
many N ds e =
    let m = length-map N.devices (λ (n : NetDevice). n.id) in
    let m' = length-map ds net_device_of in
    omega (arith, m, m', ap length e)

pub returns-then-table-devices : goal.returns-then-table-devices
returns-then-table-devices c = λ F a.
    let h = have_long F (numbers c.args.net.now.devices) c.args.table.now a in
    let m = many c.args.net.now c.devices-devices.result.now c.devices-devices.ensures.value in
    absurd (c.if-table-devices.true (omega (arith, h, m)))

pub loop-place-preserved : goal.loop-place-preserved
loop-place-preserved c = record {
  found = λ F a.
      let ds : List ℕ = numbers c.args.net.now.devices in
      let f : ℕ → ℕ × LocalValue = λ d. (d, F d) in
      let w = c.loop-place-test.true in
      let m = many c.args.net.now c.devices-devices.result.now c.devices-devices.ensures.value in
      let l = length-map c.args.net.now.devices (λ (n : NetDevice). n.id) in
      let h : c.loop-place.place < length ds = omega (arith, w, m) in
      let q = have_at F ds c.args.table.now c.loop-place.place h a in
      let at : get_or ds c.loop-place.place 0 ≡ c.index-devices-place.result.id = number_at c.args.net.now c.devices-devices.result.now c.loop-place.place c.index-devices-place.result c.devices-devices.ensures.value (omega (arith, h, l)) c.index-devices-place.is in
      let v = q.2 in
      let x : Device = get_or c.devices-devices.result.now c.loop-place.place c.index-devices-place.result in
      let i : c.index-devices-place.result.id ≡ x.id = ap (λ (y : Device). y.id) c.index-devices-place.is in
      let same : (x.id, local_of q.0.value) ≡ f (get_or ds c.loop-place.place 0) = cc in
      rw add-one (c.in_ok-add_value.ensures q.0 q.1
      ∙ ap (λ (es : Entries). es ++ (x.id, local_of q.0.value) ∷ []) (c.loop-place.invariant.found F a)
      ∙ ap (λ (e : ℕ × LocalValue). map f (take c.loop-place.place ds) ++ e ∷ []) same
      ∙ sym (map_more f ds c.loop-place.place h));
}

pub returns : goal.returns
returns c = λ F a.
    let u : length c.devices-devices.result.now ≤ c.loop-place.place = c.loop-place-test.false in
    let m = many c.args.net.now c.devices-devices.result.now c.devices-devices.ensures.value in
    c.loop-place.invariant.found F a ∙ ap (map {B = ℕ × LocalValue} (λ d. (d, F d))) (take_whole (numbers c.args.net.now.devices) c.loop-place.place (omega (arith, u, m)))
