-- The kept values of an export, as one list.
use Rattle.std.specs.Prelude.{Bool, true, false, List, [], ◌∷◌, ◌++◌, Some, None}
use Rattle.fc_values.specs.Values.{LocalValue}
use Rattle.fc_values.specs.Exports.{SlotValue}
use Rattle.fc_values.specs.Trees.{Tree, Trees, Keep, Done, Then, TreeExport}

-- what the nodes of a tree keep, in preorder
abbrev mutual
  pub kept_in : Tree → List LocalValue
  kept_in (Keep None ts) = kept_in_all ts
  kept_in (Keep (Some v) ts) = v ∷ kept_in_all ts

  pub kept_in_all : Trees → List LocalValue
  kept_in_all Done = []
  kept_in_all (Then t ts) = kept_in t ++ kept_in_all ts

abbrev pub kept_values : TreeExport → List LocalValue
kept_values e = kept_in e.tree

-- the values of the slots that are kept
abbrev pub if_kept : Bool → LocalValue → List LocalValue → List LocalValue
if_kept true v vs = v ∷ vs
if_kept false v vs = vs

abbrev pub kept_only : List SlotValue → List LocalValue
kept_only [] = []
kept_only (x ∷ xs) = if_kept x.0 x.1 (kept_only xs)
