-- What a node sees: the device's own tree, if any, and the aligned neighbours.
use Rattle.std.specs.Prelude.{ℕ, Bool, true, false, List, map, filter, Option, Some, None, option_map, if◌then◌else◌}
use Rattle.fc_values.specs.Values.{LocalValue, IntValue, BoolValue, PairValue}
use Rattle.fc_values.specs.Trees.{Tree, kept_of, child}

-- an aligned neighbour: its number, its weight and its tree
abbrev pub NearTree : Type 0
NearTree = ℕ × ℕ × Tree

-- the own tree, and the neighbours with rising numbers
pub record Env : Type 0 where
  pub own : Option Tree
  pub near : List NearTree

abbrev pub near_by : (Tree → Tree) → NearTree → NearTree
near_by f n = (n.0, n.1, f n.2)

-- each tree is replaced by one of its kids
abbrev pub child_env : ℕ → Env → Env
child_env i env = record { own = option_map (child i) env.own; near = map (near_by (child i)) env.near }

abbrev pub same_truth : Bool → Bool → Bool
same_truth true b = b
same_truth false true = false
same_truth false false = true

-- whether this truth value is kept
abbrev pub keeps_truth : Bool → Option LocalValue → Bool
keeps_truth b None = false
keeps_truth b (Some (IntValue n)) = false
keeps_truth b (Some (BoolValue c)) = same_truth b c
keeps_truth b (Some (PairValue x y)) = false

abbrev pub own_where : {A : Type 0} → (A → Bool) → Option A → Option A
own_where p None = None
own_where p (Some t) = if p t then Some t else None

-- of all trees, the device's own as well, those that keep this truth value
abbrev pub branch_env : Bool → Env → Env
branch_env b env = record {
  own = own_where (λ t. keeps_truth b (kept_of t)) env.own;
  near = filter (λ (n : NearTree). keeps_truth b (kept_of n.2)) env.near;
}

-- the numbers of some neighbours
abbrev pub near_numbers : {A : Type 0} → List (ℕ × ℕ × A) → List ℕ
near_numbers ns = map (λ n. n.0) ns
