-- The copy of a device that hears the exports of a table.
use Rattle.std.proofs.Common.{◌≡◌, ℕ, List, [], ◌∷◌, map, refl, sym, ◌∙◌, ap, Option, Some, None, Bool, true, false, nat_eq, if◌then◌else◌}
use Rattle.std.specs.Prelude.{option_map}
use Rattle.fc_values.specs.declared.exports.Export.{Export}
use Rattle.fc_nodes.specs.Program.{Unfolding}
use Rattle.value_trees.specs.Copies.{WhereSome}
use Rattle.value_trees.specs.Snaps.{tree_of, near_copy, IsExportOf, NearAreExports}
use Rattle.firing_core.specs.Cores.{near_with, near_copies}
use Rattle.firing_core.specs.CoreViews.{device_slot, AllExports}
use Rattle.stable_field.specs.Tables.{heard_with, heard_from}
use Rattle.firing_core.proofs.Slots.{slot_map}

-- a slot has an export of the program
pub slot_export : (U : Unfolding) (is : List ℕ) (xs : List (Option Export)) (d : ℕ) → AllExports U xs → WhereSome (IsExportOf U) (device_slot is xs d)
slot_export U [] xs d a = tt
slot_export U (i ∷ is) [] d a = tt
slot_export U (i ∷ is) (x ∷ xs) d a = by_test (nat_eq d i) (slot_export U is xs d a.1)
  where
    by_test : (b : Bool) → WhereSome (IsExportOf U) (device_slot is xs d) → WhereSome (IsExportOf U) (if b then x else device_slot is xs d)
    by_test true ih = a.0
    by_test false ih = ih

module _ (U : Unfolding) (is : List ℕ) (xs : List (Option Export)) where
  -- they stand for the copies of the definition
  pub heard_copies : (ns : List (ℕ × ℕ)) → map (near_copy U) (heard_from is xs ns) ≡ near_copies (device_slot is (map (option_map (tree_of U)) xs)) ns
  heard_copies [] = refl
  heard_copies (n ∷ ns) =
      one (device_slot is xs n.0) (heard_copies ns) ∙ ap (λ o. near_with n o (near_copies (device_slot is (map (option_map (tree_of U)) xs)) ns)) (sym (slot_map (tree_of U) is xs n.0))
    where
      one : (o : Option Export) → map (near_copy U) (heard_from is xs ns) ≡ near_copies (device_slot is (map (option_map (tree_of U)) xs)) ns
          → map (near_copy U) (heard_with n o (heard_from is xs ns)) ≡ near_with n (option_map (tree_of U) o) (near_copies (device_slot is (map (option_map (tree_of U)) xs)) ns)
      one None rest = rest
      one (Some e) rest = ap (λ cs. near_copy U (record { device = n.0; weight = n.1; export = e }) ∷ cs) rest

  pub heard_exports : (ns : List (ℕ × ℕ)) → AllExports U xs → NearAreExports U (heard_from is xs ns)
  heard_exports [] a = tt
  heard_exports (n ∷ ns) a = one (device_slot is xs n.0) (slot_export U is xs n.0 a) (heard_exports ns a)
    where
      one : (o : Option Export) → WhereSome (IsExportOf U) o → NearAreExports U (heard_from is xs ns) → NearAreExports U (heard_with n o (heard_from is xs ns))
      one None w ih = ih
      one (Some e) w ih = (w, ih)
