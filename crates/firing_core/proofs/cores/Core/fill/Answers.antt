use Rattle.std.proofs.Common.{◌≡◌, ◌<◌, ◌≤◌, ◌∙◌, vec_capacity, sym, ap, subst, refl, map, length, get_or, arith}
use Rattle.std.specs.Vec.{with_items}
use Rattle.std.proofs.lemmas.List.{with_items_is}
use Rattle.fc_values.specs.Values.{local_of}
use Rattle.fc_values.specs.Exports.{export_of}
use Rattle.value_trees.specs.declared.copies.Snap.{Snap}
use Rattle.value_trees.specs.Snaps.{snap_copy, near_copy, NearAreExports, IsSnap}
use Rattle.topology.specs.declared.types.Device.{Device}
use Rattle.topology.specs.Networks.{numbers, inputs_in, near}
use Rattle.firing_core.specs.Cores.{copy_of, near_copies}
use Rattle.firing_core.specs.Rooms.{IsBlank, types_of}
use Rattle.firing_core.specs.CoreViews.{CoreValue, core_of, program_of}
use Rattle.firing_core.specs.contracts.cores.Core.{the_view}
use Rattle.firing_core.proofs.Borrowed.{read_value}
use Rattle.firing_core.proofs.Taken.{Parts, device_inputs, there_forms, taken_copy, taken_snap}
use Rattle.firing_core.proofs.cores.Core.fill.Goals as goal
use Rattle.firing_core.proofs.cores.Core.fill.Goals.{After-deref, Joined-blank-3}

within : (c : After-deref) → c.args.place < length (the_view c.self.inside).net.devices
within c = subst (λ (w : CoreValue). c.args.place < length w.net.devices) (sym c.self.view_is) c.requires.within

place : (c : After-deref) → get_or (numbers (the_view c.self.inside).net.devices) c.args.place 0 ≡ c.args.device
place c = subst (λ (w : CoreValue). get_or (numbers w.net.devices) c.args.place 0 ≡ c.args.device) (sym c.self.view_is) c.requires.device

source : (c : After-deref) → map local_of c.deref.result.now ≡ inputs_in c.args.device (the_view c.self.inside).net.devices
source c =
    ap (map local_of) c.deref.ensures.value
    ∙ ap (λ (x : Device). map local_of x.inputs.items) (sym c.index-devices-place.is)
    ∙ device_inputs (the_view c.self.inside) c.self.invariant c.args.place c.args.device c.devices.result.now c.index-devices-place.result c.devices.ensures.value (within c) (place c) c.index-devices-place.is

pub overwrite_locals-requires : goal.overwrite_locals-requires
overwrite_locals-requires c =
    ap types_of c.deref_mut.ensures.value
    ∙ (subst (λ (v : CoreValue). IsBlank (program_of v) c.args.blank) (sym c.self.view_is) c.requires.blank).inputs
    ∙ sym (there_forms (the_view c.self.inside) c.self.invariant c.args.place c.args.device (within c) (place c) c.deref.result.now (source c))

pub hear-requires-clause-enough : goal.hear-requires-clause-enough
hear-requires-clause-enough c =
    let few = c.self.invariant.net.degree c.args.device in
    let wide = (subst (λ (v : CoreValue). IsBlank (program_of v) c.args.blank) (sym c.self.view_is) c.requires.blank).wide in
    subst (λ (w : CoreValue). length (near w.net c.args.device) ≤ vec_capacity c.args.blank.near) c.self.view_is (omega (arith, few, wide))

module _ (c : Joined-blank-3) where
  abbrev s : Snap
  s = record { device = c.args.device; inputs = with_items c.args.blank.inputs c.overwrite_locals.new.target; own = c.in_ok-own.own; near = c.hear.new.near }

  here : c.args.place < length (the_view c.self.inside).net.devices
  here = subst (λ (w : CoreValue). c.args.place < length w.net.devices) (sym c.self.view_is) c.requires.within

  number : get_or (numbers (the_view c.self.inside).net.devices) c.args.place 0 ≡ c.args.device
  number = subst (λ (w : CoreValue). get_or (numbers w.net.devices) c.args.place 0 ≡ c.args.device) (sym c.self.view_is) c.requires.device

  parts : Parts (the_view c.self.inside) c.self.invariant c.args.place c.args.device here number s c.index.result.now
  parts = record {
    device = refl;
    inputs = ap (map local_of) (with_items_is c.args.blank.inputs c.overwrite_locals.new.target (omega (arith, c.overwrite_locals.auto.target, ap length c.deref_mut.ensures.value, c.args.blank.inputs.ok.0)))
        ∙ c.overwrite_locals.ensures
        ∙ ap (map local_of) c.deref.ensures.value
        ∙ ap (λ (x : Device). map local_of x.inputs.items) (sym c.index-devices-place.is)
        ∙ device_inputs (the_view c.self.inside) c.self.invariant c.args.place c.args.device c.devices.result.now c.index-devices-place.result c.devices.ensures.value here number c.index-devices-place.is;
    own = c.in_ok-own.ensures ∙ read_value export_of c.as_ref.result c.index.result.now c.as_ref.ensures.value;
    near = subst (λ (w : CoreValue). map (near_copy (program_of w)) c.hear.new.near.items ≡ near_copies (core_of w).exports (near w.net c.args.device)) (sym c.self.view_is) c.in_ok-hear.ensures.near;
    exports = subst (λ (w : CoreValue). NearAreExports (program_of w) c.hear.new.near.items) (sym c.self.view_is) c.in_ok-hear.ensures.exports;
  }

pub returns-clause-copy : goal.returns-clause-copy
returns-clause-copy c =
    subst (λ (w : CoreValue). snap_copy (program_of w) (s c) ≡ copy_of w.net (core_of w).exports c.args.device) c.self.view_is
    (taken_copy (the_view c.self.inside) c.self.invariant c.args.place c.args.device (here c) (number c) (s c) c.index.result.now (parts c) c.index.ensures)

pub returns-clause-snap : goal.returns-clause-snap
returns-clause-snap c =
    subst (λ (w : CoreValue). IsSnap (program_of w) (s c)) c.self.view_is
    (taken_snap (the_view c.self.inside) c.self.invariant c.args.place c.args.device (here c) (number c) (s c) c.index.result.now (parts c) c.index.ensures)
