-- How the rules of evaluation agree with its function, and trees with slots.
use Rattle.std.specs.Prelude.{ℕ, suc, Bool, ◌≡◌, ◌↔◌, ◌+◌, List, Some}
use Rattle.fc_values.specs.Types.{ValueType}
use Rattle.fc_values.specs.Values.{LocalValue}
use Rattle.fc_values.specs.Fields.{AnyValue, ValueField, with_entry, restricted}
use Rattle.fc_values.specs.Trees.{Tree, Trees}
use Rattle.fc_nodes.specs.Terms.{ByRep, ByShare, Term, Terms, Nbr, Evolve, If, kept}
use Rattle.alignment.specs.Environments.{Env, child_env, branch_env, near_numbers}
use Rattle.alignment.specs.Slots.{FlatEnv, flat_branch}
use Rattle.alignment.specs.Hearing.{slot_entries, own_slot_or}
use Rattle.device_eval.specs.Neighbours.{kept_there}
use Rattle.alignment.specs.Scopes.{Vars}
use Rattle.device_eval.specs.Evaluation.{Situation, own_or, heard, eval_of, eval_all, pick}
use Rattle.device_eval.specs.Rules.{Evaluates, EvaluateAll}
use Rattle.device_eval.specs.Environments.{env_at, EnvFits}

-- the rules give a node a value and a tree exactly where the function does
abbrev pub RulesAgree : Situation → ℕ → Term → Vars → Env → Type 0
RulesAgree S p t vars env =
    (v : AnyValue) (tree : Tree) → (Evaluates S p t vars env v tree ↔ (eval_of S p t vars env ≡ Some (v, tree)))

-- the same for nodes one after another
abbrev pub RulesAgreeOnAll : Situation → ℕ → ℕ → Terms → Vars → Env → Type 0
RulesAgreeOnAll S p i xs vars env =
    (vs : List AnyValue) (ts : Trees) → (EvaluateAll S p i xs vars env vs ts
    ↔ (eval_all S p i xs vars env ≡ Some (vs, ts)))

-- a node has at most one value and one tree
abbrev pub HasOneAtMost : Situation → ℕ → Term → Vars → Env → Type 0
HasOneAtMost S p t vars env =
    (v w : AnyValue) (tree other : Tree) → Evaluates S p t vars env v tree → Evaluates S p t vars env w other
    → (v ≡ w) × (tree ≡ other)

-- The exports whose slot keeps the truth of an `if` stand for the trees that keep it, and in the branch for their
-- kids there.
abbrev pub BranchStands : ValueType → Term → Term → Term → ℕ → Bool → FlatEnv → Type 0
BranchStands t c a b k truth env =
    EnvFits (If t c a b) k env
    → (env_at (If t c a b) k (flat_branch k truth env) ≡ branch_env truth (env_at (If t c a b) k env))
    × (env_at (pick truth a b) (pick truth (suc k + kept c) (suc k + kept c + kept a)) (flat_branch k truth env)
    ≡ child_env 1 (branch_env truth (env_at (If t c a b) k env)))

-- the field of an `nbr`: what the neighbours have in the slot is what their trees keep
abbrev pub NbrStands : ValueType → Term → ℕ → FlatEnv → Type 0
NbrStands t a k env =
    (device : ℕ) (v : LocalValue) →
    heard device (Some v) (kept_there (env_at (Nbr t a) k env).near)
    ≡ Some (ValueField (with_entry device v (slot_entries k env.near)))

-- what a `rep` starts from: what the own slot has is what the own tree keeps
abbrev pub RepStands : ValueType → Term → Term → ℕ → FlatEnv → Type 0
RepStands t a b k env =
    (first : LocalValue) → own_or (env_at (Evolve t ByRep a b) k env).own first ≡ Some (own_slot_or k first env.own)

-- the variable of a `share`: both
abbrev pub ShareStands : ValueType → Term → Term → ℕ → FlatEnv → Type 0
ShareStands t a b k env =
    (device : ℕ) (first : LocalValue) →
    heard device (own_or (env_at (Evolve t ByShare a b) k env).own first)
    (kept_there (env_at (Evolve t ByShare a b) k env).near)
    ≡ Some (ValueField (with_entry device (own_slot_or k first env.own) (slot_entries k env.near)))

-- a field is restricted to the same devices
abbrev pub RestrictStands : Term → ℕ → FlatEnv → Type 0
RestrictStands t k env =
    (device : ℕ) (v : AnyValue) → restricted device (near_numbers (env_at t k env).near) v
    ≡ restricted device (near_numbers env.near) v
