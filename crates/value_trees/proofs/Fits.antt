-- Crates above cite this module: a copy that fits, part by part.
use Rattle.std.proofs.Common.{ℕ, ◌≤◌, List, [], ◌∷◌, map, length, Option, Some, None, option_map, arith}
use Rattle.std.proofs.lemmas.List.{length-map}
use Rattle.fc_values.specs.declared.exports.Export.{Export}
use Rattle.fc_values.specs.Values.{local_of}
use Rattle.fc_values.specs.Fields.{Rises}
use Rattle.fc_nodes.specs.Program.{Unfolding}
use Rattle.fc_nodes.specs.Flat.{IsWellTyped}
use Rattle.value_trees.specs.declared.copies.Near.{Near}
use Rattle.value_trees.specs.declared.copies.Snap.{Snap}
use Rattle.fc_values.specs.Inputs.{InputsFit}
use Rattle.value_trees.specs.Copies.{WhereSome, AllNearFit, near_devices}
use Rattle.value_trees.specs.Snaps.{tree_of, near_copy, IsExportOf, NearAreExports, IsSnap}
use Rattle.value_trees.specs.Fitting.{NearRises}

module _ (U : Unfolding) (device : ℕ) where
  near_fit : (ns : List Near) → NearRises U device ns → AllNearFit U device (map (near_copy U) ns)
  near_fit [] h = tt
  near_fit (n ∷ ns) h = let f = h.0 in let x = f.export in (record { other = f.other; above = f.above; below = f.below; export = x.typed }, near_fit ns h.2)

  near_rise : (ns : List Near) → NearRises U device ns → Rises (near_devices (map (near_copy U) ns))
  near_rise [] h = tt
  near_rise (n ∷ []) h = tt
  near_rise (n ∷ m ∷ ns) h = (h.1, near_rise (m ∷ ns) h.2)

  near_exports : (ns : List Near) → NearRises U device ns → NearAreExports U ns
  near_exports [] h = tt
  near_exports (n ∷ ns) h = let f = h.0 in (f.export, near_exports ns h.2)

  near_rises : (ns : List Near) → AllNearFit U device (map (near_copy U) ns) → Rises (near_devices (map (near_copy U) ns)) → NearAreExports U ns → NearRises U device ns
  near_rises [] f r x = tt
  near_rises (n ∷ []) f r x = let g = f.0 in (record { other = g.other; above = g.above; below = g.below; export = x.0 }, tt, tt)
  near_rises (n ∷ m ∷ ns) f r x = let g = f.0 in (record { other = g.other; above = g.above; below = g.below; export = x.0 }, r.0, near_rises (m ∷ ns) f.1 r.1 x.1)

own_typed : (U : Unfolding) (o : Option Export) → WhereSome (IsExportOf U) o → WhereSome (IsWellTyped U) (option_map (tree_of U) o)
own_typed U None h = tt
own_typed U (Some e) h = h.typed

module _ (U : Unfolding) (s : Snap) where
  pub parts_fit : InputsFit U.declared.inputs (map local_of s.inputs.items) → WhereSome (IsExportOf U) s.own → NearRises U s.device s.near.items → length s.near.items ≤ 32 → IsSnap U s
  parts_fit i o n few = record {
    fits = record {
      inputs = i;
      own = own_typed U s.own o;
      near = near_fit U s.device s.near.items n;
      rising = near_rise U s.device s.near.items n;
      few = omega (arith, few, length-map s.near.items (near_copy U));
    };
    own = o;
    near = near_exports U s.device s.near.items n;
  }

  pub near_part : IsSnap U s → NearRises U s.device s.near.items
  near_part h = let f = h.fits in near_rises U s.device s.near.items f.near f.rising h.near
