use Rattle.std.proofs.Common.{◌≡◌, ◌∙◌, [], length, sym, ap, refl, arith}
use Rattle.std.specs.Prelude.{None, replicate}
use Rattle.std.specs.Vec.Iter.{into_iter_items}
use Rattle.value_trees.specs.declared.copies.Snap.{Snap}
use Rattle.topology.specs.Networks.{net_device_of}
use Rattle.std.proofs.lemmas.List.{length-map}
use Rattle.firing_core.proofs.Starting.{nothing_left}
use Rattle.firing_core.proofs.Starting.{filled_none, filled_more, filled_all}
use Rattle.firing_core.proofs.filling.flight_slots.Goals as goal

pub loop-snap-init : goal.loop-snap-init
loop-snap-init c =
    let all : into_iter_items c.into_iter-snap-iterator.result ≡ c.args.pending.items = c.into_iter-snap-iterator.ensures.into_iter_gives.0 in
    let count : length c.devices.result.now ≡ length c.args.net.now.devices = sym (length-map c.devices.result.now net_device_of) ∙ ap length c.devices.ensures.value in
    record {
      filled = filled_none (λ (s : Snap). s.device) (λ (s : Snap). s) c.args.net.now _ _ c.args.pending.items (c.in_ok-slots.ensures ∙ ap (λ n. replicate n None) count) all c.requires.rising c.requires.there;
      long = omega (arith, c.into_iter-snap-iterator.ensures.into_iter_gives.1, ap length all, c.args.pending.ok.0);
    }

pub loop-snap-preserved-in-Some-place : goal.loop-snap-preserved-in-Some-place
loop-snap-preserved-in-Some-place c =
    let steps = c.in-Some.ensures.steps.0 in
    let was = c.loop-snap.invariant.long in
    let gone = c.in-Some.ensures.steps.1 in
    let short = ap length steps in
    record {
      filled = filled_more (λ (s : Snap). s.device) (λ (s : Snap). s) c.args.net.now c.loop-snap.slots.items _ _ _ _ c.in-Some.snap c.in-Some-place.place c.in-Some-place.ensures.network c.in-Some-place.ensures.within c.in-Some-place.ensures.there c.in-Some.ensures.steps.0 refl c.loop-snap.invariant.filled;
      long = omega arith;
    }

pub loop-snap-preserved : goal.loop-snap-preserved
loop-snap-preserved c =
    let steps = c.in-Some.ensures.steps.0 in
    let was = c.loop-snap.invariant.long in
    let gone = c.in-Some.ensures.steps.1 in
    let short = ap length steps in
    record {
      filled = filled_more (λ (s : Snap). s.device) (λ (s : Snap). s) c.args.net.now c.loop-snap.slots.items _ _ _ _ c.in-Some.snap c.in-Some-place.place c.in-Some-place.ensures.network c.in-Some-place.ensures.within c.in-Some-place.ensures.there c.in-Some.ensures.steps.0 refl c.loop-snap.invariant.filled;
      long = omega arith;
    }

pub returns : goal.returns
returns c =
    let none = c.in-None.ensures.steps in
    let empty : into_iter_items c.loop-snap.snap-iterator ≡ [] = nothing_left _ (sym c.loop-snap.invariant.long ∙ none.0) in
    record { slots = filled_all (λ (s : Snap). s.device) (λ (s : Snap). s) _ _ _ _ empty c.loop-snap.invariant.filled; many = c.loop-snap.invariant.filled.many }
