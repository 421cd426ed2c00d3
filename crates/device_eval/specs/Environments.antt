-- The trees that exports as flat slots stand for.
use Rattle.std.specs.Prelude.{ℕ, ◌≤◌, ◌+◌, List, [], ◌∷◌, map, length, Option, Some, None, option_map}
use Rattle.fc_values.specs.Exports.{SlotValue}
use Rattle.fc_nodes.specs.Terms.{Term, kept}
use Rattle.fc_nodes.specs.Flat.{tree_at, Marked}
use Rattle.alignment.specs.Environments.{Env, NearTree}
use Rattle.alignment.specs.Slots.{FlatEnv, NearSlots}

-- the tree that a neighbour's slots stand for
abbrev pub near_at : Term → ℕ → NearSlots → NearTree
near_at t k n = (n.0, n.1, tree_at t k n.2)

-- what a term whose first kept place is slot k sees of these exports
abbrev pub env_at : Term → ℕ → FlatEnv → Env
env_at t k env = record { own = option_map (tree_at t k) env.own; near = map (near_at t k) env.near }

-- the device's own export, if there is one, has the slots of the term there
abbrev pub OwnFits : Term → ℕ → Option (List SlotValue) → Type 0
OwnFits t k None = Unit {0}
OwnFits t k (Some xs) = Marked t k xs × (k + kept t ≤ length xs)

-- the same for each neighbour
abbrev pub NearFit : Term → ℕ → List NearSlots → Type 0
NearFit t k [] = Unit {0}
NearFit t k (n ∷ ns) = Marked t k n.2 × (k + kept t ≤ length n.2) × NearFit t k ns

-- the same for all exports that a node sees
pub record EnvFits (t : Term) (k : ℕ) (env : FlatEnv) : Type 0 where
  pub own : OwnFits t k env.own
  pub near : NearFit t k env.near
