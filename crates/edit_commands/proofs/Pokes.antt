-- When a device can be poked.
use Rattle.std.proofs.Common.{◌≡◌, Bool, true, false, List, refl, sym, ap, ◌∙◌, Some, None, if◌then◌else◌}
use Rattle.std.specs.Prelude.{IsTrue}
use Rattle.fc_values.specs.declared.exports.Export.{Export}
use Rattle.fc_values.specs.Values.{LocalValue}
use Rattle.fc_values.specs.BuiltinTypes.{inner}
use Rattle.fc_nodes.specs.Terms.{term_type}
use Rattle.fc_nodes.specs.Program.{Unfolding}
use Rattle.value_trees.specs.Walks.{FitsMain}
use Rattle.value_trees.specs.KeptReads.{has_type, misfit_of}
use Rattle.value_trees.specs.Snaps.{tree_of}
use Rattle.value_trees.specs.Filling.{IsRead}
use Rattle.value_trees.proofs.ReadBack.{type_had, had_type, kept_lists_fit}
use Rattle.topology.specs.Networks.{Network, lives}
use Rattle.edit_commands.specs.declared.types.Fault.TheVariants as fault
use Rattle.edit_commands.specs.Judging.{fits_kept, poke_fault}

abbrev main_has : Unfolding → LocalValue → Bool
main_has U v = has_type U.declared.ceiling (inner (term_type U.main)) v

-- the fault of a device that is there
there : (U : Unfolding) (n : Network) (d : _) (v : LocalValue) (ks : List LocalValue) (b : Bool) → lives n d ≡ true → fits_kept U v ks ≡ b → poke_fault U n d v ks ≡ (if b then None else Some fault.Kept)
there U n d v ks b l e = rw (l, e) refl

pub no_main : (U : Unfolding) (n : Network) (d : _) (v : LocalValue) (ks : List LocalValue) → lives n d ≡ true → (FitsMain U v → ⊥) → poke_fault U n d v ks ≡ Some fault.Kept
no_main U n d v ks l h = there U n d v ks false l (by_test (main_has U v) refl)
  where
    by_test : (b : Bool) → main_has U v ≡ b → fits_kept U v ks ≡ false
    by_test true e = absurd (h (had_type U.declared.ceiling (inner (term_type U.main)) v e))
    by_test false e = rw e refl

pub misfits : (U : Unfolding) (n : Network) (d : _) (v : LocalValue) (ks : List LocalValue) (p : _) → lives n d ≡ true → misfit_of U ks ≡ Some p → poke_fault U n d v ks ≡ Some fault.Kept
misfits U n d v ks p l h = there U n d v ks false l (by_test (main_has U v) refl)
  where
    by_test : (b : Bool) → main_has U v ≡ b → fits_kept U v ks ≡ false
    by_test true e = rw (e, h) refl
    by_test false e = rw e refl

pub fitting : (U : Unfolding) (n : Network) (d : _) (v : LocalValue) (ks : List LocalValue) (e : Export) → lives n d ≡ true → FitsMain U v → IsRead U v ks e → poke_fault U n d v ks ≡ None
fitting U n d v ks e l h r =
    let a : main_has U v ≡ true = type_had U.declared.ceiling (inner (term_type U.main)) v h in
    let b : misfit_of U ks ≡ None = ap (misfit_of U) (sym r.list) ∙ kept_lists_fit U (tree_of U e) r.export.typed in
    there U n d v ks true l (rw (a, b) refl)

pub not_so : {P : Type 0} (b : Bool) → (P → IsTrue b) → b ≡ false → P → ⊥
not_so true h e p = absurd cc
not_so false h e p = let off : false ≡ true = h p in absurd cc
