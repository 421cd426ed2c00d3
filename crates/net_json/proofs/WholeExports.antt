-- What items give for the whole of a program, as it is judged.
use Rattle.std.proofs.Common.{◌≡◌, List, [], ◌∷◌, ℕ, refl, sym, ◌∙◌, ap, Bool, true, false, Some}
use Rattle.fc_values.specs.declared.exports.Export.{Export}
use Rattle.fc_values.specs.Types.{LocalType}
use Rattle.fc_values.specs.Values.{LocalValue, Fits}
use Rattle.fc_values.specs.Trees.{Tree}
use Rattle.fc_nodes.specs.Terms.{size}
use Rattle.fc_nodes.specs.Program.{Unfolding}
use Rattle.value_trees.specs.KeptReads.{has_type}
use Rattle.value_trees.specs.KeptItems.{KeptItem, Taken, Took, Misfit, take_main, misfit_by, misfit_among}
use Rattle.value_trees.specs.Snaps.{tree_of}
use Rattle.value_trees.specs.Filling.{IsReadOff}
use Rattle.value_trees.proofs.ReadBack.{type_had, had_type}
use Rattle.net_json.specs.Judging.{Accepted, Refused, BadKept}
use Rattle.net_json.specs.Exports.{whole_export}

-- a test that says whether a value fits is the test of the definition
pub test_is : (c : ℕ) (s : LocalType) (v : LocalValue) (b : Bool) → (b ≡ true → Fits c s v) → (Fits c s v → b ≡ true) → b ≡ has_type c s v
test_is c s v true f g = sym (type_had c s v (f refl))
test_is c s v false f g = by_test (has_type c s v) (had_type c s v)
  where
    by_test : (q : Bool) → (q ≡ true → Fits c s v) → false ≡ q
    by_test true h = g (h refl)
    by_test false h = refl

module _ (U : Unfolding) (path : List ℕ) (v : LocalValue) (xs : List KeptItem) where
  pub misfit_refused : (p : ℕ) → misfit_among U xs ≡ Some p → whole_export U path v (take_main U xs) ≡ Refused (BadKept path p)
  misfit_refused p e = by_taken (take_main U xs) e
    where
      by_taken : (t : Taken Tree) → misfit_by (size U.main) t ≡ Some p → whole_export U path v t ≡ Refused (BadKept path p)
      by_taken (Took tree []) e = absurd cc
      by_taken (Took tree (y ∷ ys)) e = let n : size U.main ≡ p = cc in ap (λ (q : ℕ). Refused (BadKept path q)) n
      by_taken (Misfit q) e = let n : q ≡ p = cc in ap (λ (q : ℕ). Refused (BadKept path q)) n

  pub read_accepted : (e : Export) → IsReadOff U v xs e → whole_export U path v (take_main U xs) ≡ Accepted (tree_of U e)
  read_accepted e r =
      ap (whole_export U path v) r.tree
      ∙ ap (λ (w : LocalValue). Accepted (record { value = w; tree = (tree_of U e).tree })) (sym r.value)
