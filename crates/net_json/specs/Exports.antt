-- The export of a row or of a part of a copy: its value and its kept list.
use Rattle.std.specs.Prelude.{ℕ, List, [], ◌∷◌, codes, Option}
use Rattle.serde_json.specs.Data.{Data, Items}
use Rattle.fc_values.specs.Values.{LocalValue}
use Rattle.fc_values.specs.BuiltinTypes.{inner}
use Rattle.fc_values.specs.Trees.{Tree, TreeExport}
use Rattle.fc_nodes.specs.Terms.{term_type, size}
use Rattle.fc_nodes.specs.Program.{Unfolding}
use Rattle.net_json.specs.Judging.{JudgedScene, Accepted, Refused, Misshaped, BadKept, if_accepted, require, in_turn, at_member}
use Rattle.value_trees.specs.KeptReads.{has_type}
use Rattle.value_trees.specs.KeptItems.{KeptItem, Taken, Took, Misfit, take_main}
use Rattle.net_json.specs.KeptItems.{kept_judged}

-- an export with this value, whose tree uses all items. Where some are left, the number of nodes is named
abbrev pub whole_export : Unfolding → List ℕ → LocalValue → Taken Tree → JudgedScene TreeExport
whole_export U path v (Took tree []) = Accepted (record { value = v; tree = tree })
whole_export U path v (Took tree (x ∷ xs)) = Refused (BadKept path (size U.main))
whole_export U path v (Misfit p) = Refused (BadKept path p)

-- The value fits the type of `main`. Then each item of the kept list has its form. Then the list is the kept list of an
-- export. The path is that of the object that has both.
abbrev pub export_judged : Unfolding → (Data → Option KeptItem) → List ℕ → LocalValue → Items → JudgedScene TreeExport
export_judged U read path v ds =
    require (has_type U.declared.ceiling (inner (term_type U.main)) v) (Misshaped (at_member path (codes "value")))
    (if_accepted (in_turn (kept_judged read) (at_member path (codes "kept")) [] 0 ds) (λ xs.
    whole_export U path v (take_main U xs)))
