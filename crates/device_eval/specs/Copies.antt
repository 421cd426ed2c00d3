-- The export of a copy.
use Rattle.std.specs.Prelude.{◌≡◌, [], map, option_map}
use Rattle.fc_values.specs.Types.{Declarations}
use Rattle.fc_values.specs.Fields.{ValueLocal}
use Rattle.fc_values.specs.Trees.{TreeExport, NearCopy, Copy}
use Rattle.fc_nodes.specs.Program.{Unfolding}
use Rattle.fc_nodes.specs.Flat.{IsWellTyped}
use Rattle.alignment.specs.Environments.{Env, NearTree}
use Rattle.device_eval.specs.Evaluation.{Situation}
use Rattle.device_eval.specs.Rules.{Evaluates}

abbrev pub near_tree : NearCopy → NearTree
near_tree n = (n.device, n.weight, n.export.tree)

-- what the root sees
abbrev pub env_of : Copy → Env
env_of s = record { own = option_map (λ (e : TreeExport). e.tree) s.own; near = map near_tree s.near }

abbrev pub situation_of : Declarations → Copy → Situation
situation_of D s = record { device = s.device; ceiling = D.ceiling; least = D.least; inputs = s.inputs }

-- the export of a copy: the value and the tree of `main` there
pub record EvaluatesCopy (U : Unfolding) (s : Copy) (e : TreeExport) : Type 0 where
  pub main : Evaluates (situation_of U.declared s) 0 U.main [] (env_of s) (ValueLocal e.value) e.tree

-- exactly one export is that of a copy, and it is well-typed
pub record HasOneExport (U : Unfolding) (s : Copy) : Type 0 where
  pub export : TreeExport
  pub evaluates : EvaluatesCopy U s export
  pub typed : IsWellTyped U export
  pub only : (e : TreeExport) → EvaluatesCopy U s e → e ≡ export
