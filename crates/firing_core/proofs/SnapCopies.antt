-- Two copies in code with the same plain values stand for one copy.
use Rattle.std.proofs.Common.{◌≡◌, ℕ, List, [], ◌∷◌, map, refl, sym, ◌∙◌, ap, subst, Option, Some, None}
use Rattle.std.specs.Prelude.{option_map}
use Rattle.fc_values.specs.declared.exports.Export.{Export}
use Rattle.fc_values.specs.Values.{local_of}
use Rattle.fc_values.specs.Exports.{FlatExport, export_of}
use Rattle.fc_values.specs.Trees.{NearCopy}
use Rattle.fc_nodes.specs.Program.{Unfolding}
use Rattle.fc_nodes.specs.Flat.{IsExport, tree_export}
use Rattle.value_trees.specs.declared.copies.Near.{Near}
use Rattle.value_trees.specs.declared.copies.Snap.{Snap}
use Rattle.value_trees.specs.Copies.{WhereSome, FitsCopy}
use Rattle.value_trees.specs.Snaps.{tree_of, near_copy, snap_copy, IsExportOf, NearAreExports, IsSnap}
use Rattle.firing_core.specs.CoreViews.{near_view}

module _ (U : Unfolding) where
  abbrev near_from : ℕ × ℕ × FlatExport → NearCopy
  near_from v = record { device = v.0; weight = v.1; export = tree_export U v.2 }

  near_copies_from : (ns : List Near) → map (near_copy U) ns ≡ map near_from (map near_view ns)
  near_copies_from [] = refl
  near_copies_from (n ∷ ns) = ap (λ cs. near_copy U n ∷ cs) (near_copies_from ns)

  pub near_same : (ns ms : List Near) → map near_view ns ≡ map near_view ms → map (near_copy U) ns ≡ map (near_copy U) ms
  near_same ns ms e = near_copies_from ns ∙ ap (map near_from) e ∙ sym (near_copies_from ms)

  pub near_exports : (ns ms : List Near) → map near_view ns ≡ map near_view ms → NearAreExports U ms → NearAreExports U ns
  near_exports [] ms e a = tt
  near_exports (n ∷ ns) [] e a = absurd (cc)
  near_exports (n ∷ ns) (m ∷ ms) e a =
      let h : near_view n ≡ near_view m = cc in
      let t : map near_view ns ≡ map near_view ms = cc in
      (subst (IsExport U) (sym (ap (λ (v : ℕ × ℕ × FlatExport). v.2) h)) a.0, near_exports ns ms t a.1)

  pub own_same : (x y : Option Export) → option_map export_of x ≡ option_map export_of y → option_map (tree_of U) x ≡ option_map (tree_of U) y
  own_same None None e = refl
  own_same None (Some y) e = absurd (cc)
  own_same (Some x) None e = absurd (cc)
  own_same (Some x) (Some y) e = let h : export_of x ≡ export_of y = cc in ap (λ f. Some (tree_export U f)) h

  pub own_export : (x y : Option Export) → option_map export_of x ≡ option_map export_of y → WhereSome (IsExportOf U) y → WhereSome (IsExportOf U) x
  own_export None y e w = tt
  own_export (Some x) None e w = absurd (cc)
  own_export (Some x) (Some y) e w = let h : export_of x ≡ export_of y = cc in subst (IsExport U) (sym h) w

  -- a copy of a copy
  pub record SameSnap (s t : Snap) : Type 0 where
    pub device : s.device ≡ t.device
    pub inputs : map local_of s.inputs.items ≡ map local_of t.inputs.items
    pub own : option_map export_of s.own ≡ option_map export_of t.own
    pub near : map near_view s.near.items ≡ map near_view t.near.items

  pub same_copy : (s t : Snap) → SameSnap s t → snap_copy U s ≡ snap_copy U t
  same_copy s t h =
      let d = h.device in let i = h.inputs in let o = own_same s.own t.own h.own in let n = near_same s.near.items t.near.items h.near in
      cc

  pub same_snap : (s t : Snap) → SameSnap s t → IsSnap U t → IsSnap U s
  same_snap s t h k = record {
    fits = subst (FitsCopy U) (sym (same_copy s t h)) k.fits;
    own = own_export s.own t.own h.own k.own;
    near = near_exports s.near.items t.near.items h.near k.near;
  }
