-- Exports with a value and a kept list.
use Rattle.std.specs.Prelude.{◌≡◌, true, List, None}
use Rattle.fc_values.specs.Values.{LocalValue}
use Rattle.fc_values.specs.BuiltinTypes.{inner}
use Rattle.fc_values.specs.Exports.{FlatExport}
use Rattle.fc_nodes.specs.Terms.{term_type}
use Rattle.fc_nodes.specs.Program.{Unfolding}
use Rattle.fc_nodes.specs.Flat.{IsExport, tree_export}
use Rattle.value_trees.specs.KeptLists.{kept_values}
use Rattle.value_trees.specs.KeptReads.{has_type, misfit_of}

-- an export of a program with this value and these kept values
pub record Keeps (U : Unfolding) (v : LocalValue) (vs : List LocalValue) (x : FlatExport) : Type 0 where
  pub export : IsExport U x
  pub value : (tree_export U x).value ≡ v
  pub list : kept_values (tree_export U x) ≡ vs

-- for each value of the type of `main` and each list without a misfit there is an export that has both
abbrev pub ListsHaveExports : Type 0
ListsHaveExports =
    (U : Unfolding) (v : LocalValue) (vs : List LocalValue)
    → has_type U.declared.ceiling (inner (term_type U.main)) v ≡ true → misfit_of U vs ≡ None
    → (x : FlatExport) × Keeps U v vs x
