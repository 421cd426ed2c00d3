use Rattle.std.proofs.Common.{◌≡◌, ◌∙◌, ℕ, [], length, sym, ap, arith}
use Rattle.std.specs.Prelude.{None, Some, replicate, slice_set}
use Rattle.std.specs.Vec.Iter.{into_iter_items}
use Rattle.fc_values.specs.declared.exports.Export.{Export}
use Rattle.topology.specs.Networks.{net_device_of}
use Rattle.std.proofs.lemmas.List.{length-map}
use Rattle.firing_core.proofs.Starting.{nothing_left}
use Rattle.firing_core.proofs.Starting.{filled_none, filled_more, filled_all}
use Rattle.firing_core.proofs.filling.export_slots.Goals as goal

pub loop-device-init : goal.loop-device-init
loop-device-init c =
    let all : into_iter_items c.into_iter-device-iterator.result ≡ c.args.table.items = c.into_iter-device-iterator.ensures.into_iter_gives.0 in
    let count : length c.devices.result.now ≡ length c.args.net.now.devices = sym (length-map c.devices.result.now net_device_of) ∙ ap length c.devices.ensures.value in
    record {
      filled = filled_none (λ (e : ℕ × Export). e.0) (λ (e : ℕ × Export). e.1) c.args.net.now _ _ c.args.table.items (c.in_ok-slots.ensures ∙ ap (λ n. replicate n None) count) all c.requires.rising c.requires.there;
      long = omega (arith, c.into_iter-device-iterator.ensures.into_iter_gives.1, ap length all, c.args.table.ok.0);
    }

pub loop-device-preserved-in_ok-new : goal.loop-device-preserved-in_ok-new
loop-device-preserved-in_ok-new c =
    let steps = c.in-Some.ensures.steps.0 in
    let was = c.loop-device.invariant.long in
    let gone = c.in-Some.ensures.steps.1 in
    let short = ap length steps in
    record {
      filled = filled_more (λ (e : ℕ × Export). e.0) (λ (e : ℕ × Export). e.1) c.args.net.now c.loop-device.slots.items _ _ _ _ (c.in-Some.device, c.in-Some.export) c.in-Some-place.place c.in-Some-place.ensures.network c.in-Some-place.ensures.within c.in-Some-place.ensures.there c.in-Some.ensures.steps.0
          (ap (λ (e : Export). slice_set c.loop-device.slots.items c.in-Some-place.place (Some e)) c.in_ok-new.ensures) c.loop-device.invariant.filled;
      long = omega arith;
    }

pub loop-device-preserved : goal.loop-device-preserved
loop-device-preserved c =
    let steps = c.in-Some.ensures.steps.0 in
    let was = c.loop-device.invariant.long in
    let gone = c.in-Some.ensures.steps.1 in
    let short = ap length steps in
    record {
      filled = filled_more (λ (e : ℕ × Export). e.0) (λ (e : ℕ × Export). e.1) c.args.net.now c.loop-device.slots.items _ _ _ _ (c.in-Some.device, c.in-Some.export) c.in-Some-place.place c.in-Some-place.ensures.network c.in-Some-place.ensures.within c.in-Some-place.ensures.there c.in-Some.ensures.steps.0
          (ap (λ (e : Export). slice_set c.loop-device.slots.items c.in-Some-place.place (Some e)) c.in_ok-new.ensures) c.loop-device.invariant.filled;
      long = omega arith;
    }

pub returns : goal.returns
returns c =
    let none = c.in-None.ensures.steps in
    let empty : into_iter_items c.loop-device.device-iterator ≡ [] = nothing_left _ (sym c.loop-device.invariant.long ∙ none.0) in
    record { slots = filled_all (λ (e : ℕ × Export). e.0) (λ (e : ℕ × Export). e.1) _ _ _ _ empty c.loop-device.invariant.filled; many = c.loop-device.invariant.filled.many; network = c.devices.ensures.network }
