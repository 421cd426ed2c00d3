-- The copy with which a device begins.
use Rattle.std.proofs.Common.{◌≡◌, ℕ, zero, suc, ◌<◌, List, [], ◌∷◌, length, map, get_or, refl, sym, ◌∙◌, ap, subst, arith, Option, None}
use Rattle.std.specs.Prelude.{option_map}
use Rattle.std.proofs.lemmas.List.{length-map}
use Rattle.fc_values.specs.declared.exports.Export.{Export}
use Rattle.fc_values.specs.Values.{local_of}
use Rattle.fc_nodes.specs.Program.{Unfolding}
use Rattle.value_trees.specs.declared.copies.Snap.{Snap}
use Rattle.value_trees.specs.Copies.{WhereSome, FitsCopy}
use Rattle.value_trees.specs.Snaps.{tree_of, near_copy, snap_copy, IsExportOf, NearAreExports, IsSnap}
use Rattle.topology.specs.declared.types.Device.{Device}
use Rattle.topology.specs.Networks.{NetDevice, Network, net_device_of, numbers, Lives, inputs_in, near, IsNetwork}
use Rattle.firing_core.specs.Cores.{Core, near_copies, copy_of, IsGood}
use Rattle.firing_core.specs.CoreViews.{device_slot}
use Rattle.firing_core.specs.Laws.{CopiesFit}
use Rattle.stable_field.specs.Tables.{AreExportSlots, table_of, heard_from}
use Rattle.firing_core.proofs.Slots.{Distinct, rises_distinct, slot_map}
use Rattle.firing_core.proofs.Taken.{inputs_at, in_at}
use Rattle.stable_field.proofs.Slots.{slot_read}
use Rattle.stable_field.proofs.Hearing.{heard_copies, heard_exports, slot_export}
use Rattle.stable_field.proofs.Levels.{good_table}

-- of a network whose devices are these
module _ (N : Network) (ds : List Device) (k : ℕ) (x : Device) (all : map net_device_of ds ≡ N.devices) where
  pub number_at : k < length N.devices → x ≡ get_or ds k x → get_or (numbers N.devices) k 0 ≡ x.id
  number_at h q = subst (λ (ns : List NetDevice). get_or (numbers ns) k 0 ≡ x.id) all (at ds k (let l = length-map ds net_device_of in omega (arith, h, l, ap length all)) q)
    where
      at : (es : List Device) (i : ℕ) → i < length es → x ≡ get_or es i x → get_or (numbers (map net_device_of es)) i 0 ≡ x.id
      at [] i h q = absurd (omega arith)
      at (e ∷ es) zero h q = rw q refl
      at (e ∷ es) (suc i) h q = at es i (omega arith) q

  pub device_inputs : IsNetwork N → k < length N.devices → x ≡ get_or ds k x → map local_of x.inputs.items ≡ inputs_in x.id N.devices
  device_inputs net h q =
      let n : Distinct (numbers (map net_device_of ds)) = subst (λ (ns : List NetDevice). Distinct (numbers ns)) (sym all) (rises_distinct (numbers N.devices) net.rising) in
      let l = length-map ds net_device_of in
      let at : get_or (numbers (map net_device_of ds)) k 0 ≡ x.id = subst (λ (ns : List NetDevice). get_or (numbers ns) k 0 ≡ x.id) (sym all) (number_at h q) in
      inputs_at ds k x.id x n (omega (arith, h, l, ap length all)) q at ∙ ap (inputs_in x.id) all

module _ (U : Unfolding) (N : Network) (xs : List (Option Export)) (t : AreExportSlots U N xs) (net : IsNetwork N) (same : N.declared ≡ U.declared) (k d : ℕ) (h : k < length N.devices) (at : get_or (numbers N.devices) k 0 ≡ d)
    (s : Snap) (device : s.device ≡ d) (inputs : map local_of s.inputs.items ≡ inputs_in d N.devices) (own : s.own ≡ get_or xs k None) (heard : s.near.items ≡ heard_from (numbers N.devices) xs (near N d)) where
  own_is : device_slot (numbers N.devices) xs d ≡ s.own
  own_is = slot_read N net xs k d s.own t.many h at own

  pub begun_copy : snap_copy U s ≡ copy_of N (table_of U N xs) d
  begun_copy =
      let a = device in
      let b = inputs in
      let o : option_map (tree_of U) s.own ≡ table_of U N xs d = ap (option_map (tree_of U)) (sym own_is) ∙ sym (slot_map (tree_of U) (numbers N.devices) xs d) in
      let n : map (near_copy U) s.near.items ≡ near_copies (table_of U N xs) (near N d) = ap (map (near_copy U)) heard ∙ heard_copies U (numbers N.devices) xs (near N d) in
      cc

  core : Core
  core = record { net = N; exports = table_of U N xs; flying = λ e. None }

  good : IsGood U core
  unfolding core
  good = record { net = net; declared = same; exports = good_table U N xs t; flying = λ e z q. absurd cc }

  live : Lives N d
  live = in_at (numbers N.devices) k d (let m = length-map N.devices (λ (n : NetDevice). n.id) in omega (arith, h, m)) at

  pub begun : CopiesFit → IsSnap U s
  unfolding core
  begun fit = record {
    fits = subst (FitsCopy U) (sym begun_copy) (fit U core d good live);
    own = subst (WhereSome (IsExportOf U)) own_is (slot_export U (numbers N.devices) xs d t.exports);
    near = subst (NearAreExports U) (sym heard) (heard_exports U (numbers N.devices) xs (near N d) t.exports);
  }
