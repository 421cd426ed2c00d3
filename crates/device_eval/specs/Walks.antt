-- What the evaluation of a node needs, and what it gives.
use Rattle.std.specs.Prelude.{ℕ, false, ◌≡◌, ◌<◌, ◌≤◌, ◌+◌, List, length, Some, IsSome}
use Rattle.fc_values.specs.Values.{IntValue, BoolValue, PairValue}
use Rattle.fc_values.specs.Fields.{AnyValue, ValueLocal, ValueField}
use Rattle.fc_values.specs.Exports.{SlotValue, slot_at}
use Rattle.fc_nodes.specs.declared.nodes.Node.{Node}
use Rattle.fc_values.specs.Types.{ValueType}
use Rattle.fc_nodes.specs.Terms.{Term, Sort, HasNode, kept, kept_before, term_at, Laid, WellFormed}
use Rattle.fc_nodes.specs.Flat.{tree_at, Clear, Marked}
use Rattle.alignment.specs.Scopes.{Vars}
use Rattle.device_eval.specs.Evaluation.{Situation, eval_of}
use Rattle.fc_nodes.specs.Layouts.{LayoutValue, IsLayout}
use Rattle.alignment.specs.Slots.{FlatEnv}
use Rattle.device_eval.specs.Environments.{env_at, EnvFits}

-- n slots from k on are there, and none of them is kept
pub record Room (k n : ℕ) (xs : List SlotValue) : Type 0 where
  pub clear : Clear k n xs
  pub within : k + n ≤ length xs

-- the same slots within n slots from k on
pub record SameIn (k n : ℕ) (xs ys : List SlotValue) : Type 0 where
  pub same : (j : ℕ) → k ≤ j → j < k + n → slot_at j xs ≡ slot_at j ys

-- the same slots outside of them
pub record SameOut (k n : ℕ) (xs ys : List SlotValue) : Type 0 where
  pub long : length xs ≡ length ys
  pub before : (j : ℕ) → j < k → slot_at j xs ≡ slot_at j ys
  pub behind : (j : ℕ) → k + n ≤ j → slot_at j xs ≡ slot_at j ys

-- what isn't kept afterwards is as it was
pub record Still (xs ys : List SlotValue) : Type 0 where
  pub still : (j : ℕ) → (slot_at j ys).0 ≡ false → slot_at j ys ≡ slot_at j xs

-- what the evaluation of a term at place p with first slot k needs: exports that have its slots, room in the draft, and
-- that the definition isn't stuck
pub record Can (S : Situation) (p : ℕ) (t : Term) (k : ℕ) (vars : Vars) (env : FlatEnv) (xs : List SlotValue)
    : Type 0 where
  pub fits : EnvFits t k env
  pub room : Room k (kept t) xs
  pub runs : IsSome (eval_of S p t vars (env_at t k env))

-- what it gives: the value of the definition, and slots that stand for its tree; no other slot is written
pub record Did (S : Situation) (p : ℕ) (t : Term) (k : ℕ) (vars : Vars) (env : FlatEnv)
    (xs : List SlotValue) (v : AnyValue) (ys : List SlotValue) : Type 0 where
  pub gives : eval_of S p t vars (env_at t k env) ≡ Some (v, tree_at t k ys)
  pub marked : Marked t k ys
  pub out : SameOut k (kept t) xs ys
  pub still : Still xs ys

-- the same at a place of a program
abbrev pub CanAt : Situation → List Node → ℕ → Vars → FlatEnv → List SlotValue → Type 0
CanAt S ns p vars env xs = Can S p (term_at ns p) (kept_before ns p) vars env xs

-- and what it gives there
abbrev pub DidAt : Situation → List Node → ℕ → Vars → FlatEnv → List SlotValue → AnyValue → List SlotValue → Type 0
DidAt S ns p vars env xs v ys = Did S p (term_at ns p) (kept_before ns p) vars env xs v ys

-- a place of a program with its layout
pub record Stands (ns : List Node) (l : LayoutValue) (p : ℕ) : Type 0 where
  pub layout : IsLayout ns l
  pub formed : WellFormed ns
  pub laid : Laid ns p (term_at ns p)
  pub within : p < length ns

-- a place at which evaluation may begin
pub record Ready (S : Situation) (ns : List Node) (l : LayoutValue) (p : ℕ)
    (vars : Vars) (env : FlatEnv) (xs : List SlotValue) : Type 0 where
  pub can : CanAt S ns p vars env xs
  pub stands : Stands ns l p

-- the same, and the node that stands there
pub record ReadyAt (S : Situation) (ns : List Node) (l : LayoutValue) (p : ℕ) (s : Sort) (t : ValueType)
    (ks : List ℕ) (vars : Vars) (env : FlatEnv) (xs : List SlotValue) : Type 0 where
  pub ready : Ready S ns l p vars env xs
  pub node : HasNode ns p s t ks

-- a local value
abbrev pub IsLocal : AnyValue → Type 0
IsLocal (ValueLocal v) = Unit {0}
IsLocal (ValueField es) = ⊥

-- a truth value
abbrev pub IsTruth : AnyValue → Type 0
IsTruth (ValueLocal (BoolValue b)) = Unit {0}
IsTruth (ValueLocal (IntValue n)) = ⊥
IsTruth (ValueLocal (PairValue x y)) = ⊥
IsTruth (ValueField es) = ⊥
