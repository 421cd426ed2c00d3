-- Crates above cite this module: the copy that a begin takes, from its parts.
use Rattle.std.proofs.Common.{◌≡◌, ℕ, zero, suc, ◌<◌, List, [], ◌∷◌, length, map, get_or, refl, sym, ◌∙◌, ap, subst, arith, Bool, true, false, nat_eq, if◌then◌else◌, Option}
use Rattle.std.specs.Prelude.{option_map, ◌||◌}
use Rattle.std.proofs.lemmas.Bool.{eqb-true, eq-eqb}
use Rattle.std.proofs.lemmas.List.{length-map}
use Rattle.fc_values.specs.declared.values.Local.{Local}
use Rattle.fc_values.specs.declared.exports.Export.{Export}
use Rattle.fc_values.specs.Values.{local_of}
use Rattle.fc_values.specs.Exports.{export_of}
use Rattle.value_trees.specs.declared.copies.Snap.{Snap}
use Rattle.fc_values.specs.Inputs.{InputsFit}
use Rattle.value_trees.specs.Copies.{FitsCopy}
use Rattle.value_trees.specs.Snaps.{tree_of, near_copy, snap_copy, NearAreExports, IsSnap}
use Rattle.topology.specs.declared.types.Device.{Device}
use Rattle.topology.specs.Networks.{NetDevice, net_device_of, numbers, Lives, inputs_in, near}
use Rattle.fc_values.specs.Fields.{is_in}
use Rattle.firing_core.specs.Cores.{near_copies, copy_of}
use Rattle.firing_core.specs.CoreViews.{CoreValue, core_of, program_of, IsCore}
use Rattle.firing_core.specs.Rooms.{types_of, declared_types}
use Rattle.firing_core.proofs.RoomSteps.{input_forms}
use Rattle.firing_core.proofs.Slots.{Distinct, rises_distinct}
use Rattle.firing_core.proofs.Views.{many_numbers, export_there}
use Rattle.firing_core.proofs.Neighbours.{copy_fits}
use Rattle.firing_core.proofs.SnapCopies.{own_same, own_export}
use Rattle.firing_core.proofs.CoreSteps.{export_at, export_kept, export_within}

-- the inputs of the device at a place
pub inputs_at : (xs : List Device) (p d : ℕ) (x : Device) → Distinct (numbers (map net_device_of xs)) → p < length xs → x ≡ get_or xs p x → get_or (numbers (map net_device_of xs)) p 0 ≡ d
    → map local_of x.inputs.items ≡ inputs_in d (map net_device_of xs)
inputs_at [] p d x n h q e = absurd (omega arith)
inputs_at (y ∷ ys) zero d x n h q e = let t = eq-eqb d y.id (sym e) in rw t (ap (λ (z : Device). map local_of z.inputs.items) q)
inputs_at (y ∷ ys) (suc p) d x n h q e = by_test (nat_eq d y.id) refl (inputs_at ys p d x n.1 (omega arith) q e)
  where
    by_test : (b : Bool) → nat_eq d y.id ≡ b → map local_of x.inputs.items ≡ inputs_in d (map net_device_of ys) → map local_of x.inputs.items ≡ (if b then map local_of y.inputs.items else inputs_in d (map net_device_of ys))
    by_test true t ih = let z = eqb-true d y.id t in let m = many_numbers (map net_device_of ys) in let l = same_length ys in absurd (n.0 p (omega arith) (e ∙ z))
      where
        same_length : (zs : List Device) → length (map net_device_of zs) ≡ length zs
        same_length [] = refl
        same_length (w ∷ ws) = ap suc (same_length ws)
    by_test false t ih = ih

-- in the network of a core
pub device_inputs : (v : CoreValue) → IsCore v → (p d : ℕ) (xs : List Device) (x : Device) → map net_device_of xs ≡ v.net.devices → p < length v.net.devices → get_or (numbers v.net.devices) p 0 ≡ d → x ≡ get_or xs p x
    → map local_of x.inputs.items ≡ inputs_in d v.net.devices
device_inputs v k p d xs x all h q i =
    let n : Distinct (numbers (map net_device_of xs)) = subst (λ (ns : List NetDevice). Distinct (numbers ns)) (sym all) (rises_distinct _ k.net.rising) in
    let l : p < length xs = omega (arith, h, length-map xs net_device_of, ap length all) in
    inputs_at xs p d x n l i (subst (λ (ns : List NetDevice). get_or (numbers ns) p 0 ≡ d) (sym all) q) ∙ ap (inputs_in d) all

-- a number at a place is among the numbers
pub in_at : (is : List ℕ) (p d : ℕ) → p < length is → get_or is p 0 ≡ d → is_in d is ≡ true
in_at [] p d h e = absurd (omega arith)
in_at (i ∷ is) zero d h e = let t = eq-eqb d i (sym e) in rw t refl
in_at (i ∷ is) (suc p) d h e = let r = in_at is p d (omega arith) e in rw r (or_true (nat_eq d i))
  where
    or_true : (b : Bool) → (b || true) ≡ true
    or_true true = refl
    or_true false = refl

module _ (v : CoreValue) (k : IsCore v) (p d : ℕ) (h : p < length v.net.devices) (e : get_or (numbers v.net.devices) p 0 ≡ d) where
  -- what a copy in code is made of
  pub record Parts (s : Snap) (x : Option Export) : Type 0 where
    pub device : s.device ≡ d
    pub inputs : map local_of s.inputs.items ≡ inputs_in d v.net.devices
    pub own : option_map export_of s.own ≡ option_map export_of x
    pub near : map (near_copy (program_of v)) s.near.items ≡ near_copies (core_of v).exports (near v.net d)
    pub exports : NearAreExports (program_of v) s.near.items

  pub taken_copy : (s : Snap) (x : Option Export) → Parts s x → x ≡ get_or v.exports p x → snap_copy (program_of v) s ≡ copy_of v.net (core_of v).exports d
  taken_copy s x parts q =
      let a = parts.device in
      let b = parts.inputs in
      let o : option_map (tree_of (program_of v)) s.own ≡ (core_of v).exports d = own_same (program_of v) s.own x parts.own ∙ sym (export_at v k p d h e x q) in
      let n = parts.near in
      cc

  there : Lives v.net d
  there = let m = many_numbers v.net.devices in in_at (numbers v.net.devices) p d (omega arith) e

  pub taken_snap : (s : Snap) (x : Option Export) → Parts s x → x ≡ get_or v.exports p x → IsSnap (program_of v) s
  taken_snap s x parts q = record {
    fits = subst (FitsCopy (program_of v)) (sym (taken_copy s x parts q))
        (copy_fits (program_of v) v.net (core_of v).exports d k.net k.declared there
        (λ i y r. (export_there (program_of v) (numbers v.net.devices) v.exports i y k.exports r).typed));
    own = own_export (program_of v) s.own x parts.own (export_kept (program_of v) v.exports p x k.exports (export_within v k p d h e) q);
    near = parts.exports;
  }

  -- the inputs of a device have the declared types
  pub there_forms : (vs : List Local) → map local_of vs ≡ inputs_in d v.net.devices → types_of vs ≡ declared_types (program_of v)
  there_forms vs q = input_forms (program_of v).declared.inputs vs (subst (InputsFit (program_of v).declared.inputs) (sym q)
      (copy_fits (program_of v) v.net (core_of v).exports d k.net k.declared there
      (λ i y r. (export_there (program_of v) (numbers v.net.devices) v.exports i y k.exports r).typed)).inputs)
