use Rattle.std.proofs.Common.{◌≡◌, ◌<◌, List, ◌∙◌, sym, ap, subst, refl, map, length, get_or, arith}
use Rattle.std.proofs.lemmas.List.{length-map}
use Rattle.fc_values.specs.Values.{local_of}
use Rattle.fc_values.specs.Exports.{export_of}
use Rattle.value_trees.specs.declared.copies.Snap.{Snap}
use Rattle.value_trees.specs.Snaps.{snap_copy, near_copy, NearAreExports, IsSnap}
use Rattle.topology.specs.declared.types.Device.{Device}
use Rattle.topology.specs.Networks.{NetDevice, net_device_of, numbers, inputs_in, near}
use Rattle.firing_core.specs.Cores.{copy_of, near_copies}
use Rattle.firing_core.specs.CoreViews.{CoreValue, core_of, program_of}
use Rattle.firing_core.specs.contracts.cores.Core.{the_view}
use Rattle.firing_core.proofs.Slots.{Distinct, rises_distinct}
use Rattle.firing_core.proofs.Borrowed.{read_value}
use Rattle.firing_core.proofs.Taken.{Parts, inputs_at, taken_copy, taken_snap}
use Rattle.firing_core.proofs.cores.Core.neighbourhood.Goals as goal

module _ (c : goal.In_ok-hear) where
  -- the core, the device's place in it, and the copy
  v : CoreValue
  v = the_view c.self.inside

  s : Snap
  s = record { device = c.args.device; inputs = c.in_ok-inputs.inputs; own = c.in_ok-own.own; near = c.hear.new.near }

  within : c.args.place < length (the_view c.self.inside).net.devices
  within = subst (λ (w : CoreValue). c.args.place < length w.net.devices) (sym c.self.view_is) c.requires.within

  place : get_or (numbers (the_view c.self.inside).net.devices) c.args.place 0 ≡ c.args.device
  place = subst (λ (w : CoreValue). get_or (numbers w.net.devices) c.args.place 0 ≡ c.args.device) (sym c.self.view_is) c.requires.device

  inputs : map local_of c.in_ok-inputs.inputs.items ≡ inputs_in c.args.device (the_view c.self.inside).net.devices
  inputs =
      let all = c.devices.ensures.value in
      let n : Distinct (numbers (map net_device_of c.devices.result.now)) = subst (λ (ns : List NetDevice). Distinct (numbers ns)) (sym all) (rises_distinct _ c.self.invariant.net.rising) in
      let h : c.args.place < length c.devices.result.now = let w = within in omega (arith, w, length-map c.devices.result.now net_device_of, ap length all) in
      let q : get_or (numbers (map net_device_of c.devices.result.now)) c.args.place 0 ≡ c.args.device = subst (λ (ns : List NetDevice). get_or (numbers ns) c.args.place 0 ≡ c.args.device) (sym all) place in
      c.in_ok-inputs.ensures
      ∙ ap (map local_of) c.deref.ensures.value
      ∙ ap (λ (x : Device). map local_of x.inputs.items) (sym c.index-devices-place.is)
      ∙ inputs_at c.devices.result.now c.args.place c.args.device c.index-devices-place.result n h c.index-devices-place.is q
      ∙ ap (inputs_in c.args.device) all

  parts : Parts (the_view c.self.inside) c.self.invariant c.args.place c.args.device within place s c.index.result.now
  unfolding s
  parts = record {
    device = refl;
    inputs = inputs;
    own = c.in_ok-own.ensures ∙ read_value export_of c.as_ref.result c.index.result.now c.as_ref.ensures.value;
    near = subst (λ (w : CoreValue). map (near_copy (program_of w)) c.hear.new.near.items ≡ near_copies (core_of w).exports (near w.net c.args.device)) (sym c.self.view_is) c.in_ok-hear.ensures.near;
    exports = subst (λ (w : CoreValue). NearAreExports (program_of w) c.hear.new.near.items) (sym c.self.view_is) c.in_ok-hear.ensures.exports;
  }

  copy_is : snap_copy (program_of c.args.self.now) (record { device = c.args.device; inputs = c.in_ok-inputs.inputs; own = c.in_ok-own.own; near = c.hear.new.near }) ≡ copy_of c.args.self.now.net (core_of c.args.self.now).exports c.args.device
  unfolding s
  copy_is = subst (λ (w : CoreValue). snap_copy (program_of w) s ≡ copy_of w.net (core_of w).exports c.args.device) c.self.view_is
      (taken_copy (the_view c.self.inside) c.self.invariant c.args.place c.args.device within place s c.index.result.now parts c.index.ensures)

  snap_is : IsSnap (program_of c.args.self.now) (record { device = c.args.device; inputs = c.in_ok-inputs.inputs; own = c.in_ok-own.own; near = c.hear.new.near })
  unfolding s
  snap_is = subst (λ (w : CoreValue). IsSnap (program_of w) s) c.self.view_is
      (taken_snap (the_view c.self.inside) c.self.invariant c.args.place c.args.device within place s c.index.result.now parts c.index.ensures)

pub returns-clause-copy : goal.returns-clause-copy
returns-clause-copy c = copy_is c

pub returns-clause-snap : goal.returns-clause-snap
returns-clause-snap c = snap_is c
