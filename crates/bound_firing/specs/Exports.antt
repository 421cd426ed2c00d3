-- Bounds of exports.
use Rattle.std.specs.Prelude.{Bool, false}
use Rattle.fc_values.specs.BuiltinTypes.{inner}
use Rattle.fc_values.specs.Trees.{TreeExport}
use Rattle.fc_nodes.specs.Terms.{term_type}
use Rattle.fc_nodes.specs.Program.{Unfolding}
use Rattle.value_bounds.specs.BoundValues.{BoundValue, Lies, anything}
use Rattle.bound_firing.specs.BoundTrees.{BoundTree, TreeLies, any_tree}
use Rattle.bound_firing.specs.Firing.{local_part, BoundOutcome}

-- a bound of an export: of the value of `main` and of the tree, and whether it is there for sure
pub record ExportBound : Type 0 where
  pub value : BoundValue
  pub tree : BoundTree
  pub sure : Bool

-- any export of a program, which may be missing
abbrev pub any_export : Unfolding → ExportBound
any_export U = record {
  value = anything U.declared.ceiling (inner (term_type U.main));
  tree = any_tree U.declared.ceiling U.main;
  sure = false;
}

-- an export lies in a bound
pub record ExportLies (U : Unfolding) (b : ExportBound) (e : TreeExport) : Type 0 where
  pub value : Lies b.value e.value
  pub tree : TreeLies U.main b.tree e.tree

-- that of a firing
abbrev pub bound_export : Bool → BoundOutcome → ExportBound
bound_export sure r = record { value = local_part r.0; tree = r.1; sure = sure }
