-- Where a node may be evaluated, and what its evaluation gives.
use Rattle.std.specs.Prelude.{ℕ, ◌≡◌, ◌≤◌, List, [], ◌∷◌, false, ◌||◌, filter, nat_eq, Some, slice_get}
use Rattle.fc_values.specs.Types.{LocalType, ValueType, TypeLocal, TypeField, Declarations}
use Rattle.fc_values.specs.Values.{LocalValue, Fits}
use Rattle.fc_values.specs.Fields.{AnyValue, ValueLocal, ValueField, devices, Rises, AllFit, FitsOver, is_in, with_number}
use Rattle.fc_values.specs.Trees.{Tree, Copy}
use Rattle.fc_nodes.specs.Terms.{Term, term_type}
use Rattle.fc_nodes.specs.Typing.{Scope, sense_type, HasType}
use Rattle.fc_nodes.specs.Flat.{FitsTree}
use Rattle.fc_nodes.specs.Program.{Unfolding}
use Rattle.alignment.specs.Environments.{NearTree, Env, near_numbers}
use Rattle.value_trees.specs.Copies.{WhereSome, near_devices}
use Rattle.alignment.specs.Scopes.{Vars}
use Rattle.device_eval.specs.Evaluation.{Situation}
use Rattle.device_eval.specs.Rules.{Evaluates}
use Rattle.device_eval.specs.Copies.{env_of, situation_of}

-- each neighbour's tree is of a kind
abbrev pub EachNear : (Tree → Type 0) → List NearTree → Type 0
EachNear P [] = Unit {0}
EachNear P (n ∷ ns) = P n.2 × EachNear P ns

-- each weight is at most the ceiling
abbrev pub AllLight : ℕ → List NearTree → Type 0
AllLight ceiling [] = Unit {0}
AllLight ceiling (n ∷ ns) = (n.1 ≤ ceiling) × AllLight ceiling ns

-- an environment of a device whose neighbours are ds, with trees of a kind
pub record FitsEnv (ceiling device : ℕ) (ds : List ℕ) (P : Tree → Type 0) (env : Env) : Type 0 where
  pub own : WhereSome P env.own
  pub near : EachNear P env.near
  pub light : AllLight ceiling env.near
  pub numbers : near_numbers env.near ≡ ds
  pub rising : Rises ds
  pub other : is_in device ds ≡ false

-- A variable in scope: a field is over the device, the neighbours and maybe more devices.
abbrev pub VariableFits : ℕ → ℕ → List ℕ → ValueType → AnyValue → Type 0
VariableFits ceiling device ds (TypeLocal t) (ValueLocal v) = Fits ceiling t v
VariableFits ceiling device ds (TypeField t) (ValueField es) =
    AllFit ceiling t es × (filter (λ (d : ℕ). nat_eq d device || is_in d ds) (devices es) ≡ with_number device ds)
VariableFits ceiling device ds _ _ = ⊥

abbrev pub VarsFit : ℕ → ℕ → List ℕ → Scope → Vars → Type 0
VarsFit ceiling device ds [] [] = Unit {0}
VarsFit ceiling device ds (b ∷ bs) (v ∷ vs) =
    (b.0 ≡ v.0) × VariableFits ceiling device ds b.1 v.1 × VarsFit ceiling device ds bs vs
VarsFit ceiling device ds _ _ = ⊥

-- an input of a type
pub record InputThere (S : Situation) (i : ℕ) (s : LocalType) : Type 0 where
  pub value : LocalValue
  pub is : slice_get S.inputs i ≡ Some value
  pub fits : Fits S.ceiling s value

-- a situation in which a program with these declarations may be evaluated
pub record Suits (D : Declarations) (S : Situation) : Type 0 where
  pub ceiling : D.ceiling ≡ S.ceiling
  pub least : S.least ≤ S.ceiling
  pub inputs : (i : ℕ) (s : LocalType) → sense_type D i ≡ Some s → InputThere S i s

-- a node and what it is evaluated in: the types of the binders in scope, its place and its term, the numbers of the
-- aligned neighbours, the values of the binders, and the environment
pub record NodeIn : Type 0 where
  pub declared : Declarations
  pub situation : Situation
  pub scope : Scope
  pub place : ℕ
  pub term : Term
  pub neighbours : List ℕ
  pub vars : Vars
  pub env : Env

-- `main` in what the root sees of a copy
abbrev pub main_in : Unfolding → Copy → NodeIn
main_in U s = record {
  declared = U.declared;
  situation = situation_of U.declared s;
  scope = [];
  place = 0;
  term = U.main;
  neighbours = near_devices s.near;
  vars = [];
  env = env_of s;
}

-- the conditions under which a node is evaluated: it is typed, the situation is one of the declarations, the binders
-- have values of their types, and the trees fit the node
pub record MayEvaluate (n : NodeIn) : Type 0 where
  pub typed : HasType n.declared n.scope n.place n.term
  pub suits : Suits n.declared n.situation
  pub vars : VarsFit n.situation.ceiling n.situation.device n.neighbours n.scope n.vars
  pub env : FitsEnv n.situation.ceiling n.situation.device n.neighbours (FitsTree n.situation.ceiling n.term) n.env

-- exactly one value and one tree: the value fits the node's type, a field over exactly the device and the aligned
-- neighbours, and the tree fits the node
pub record HasOutcome (n : NodeIn) : Type 0 where
  pub value : AnyValue
  pub tree : Tree
  pub evaluates : Evaluates n.situation n.place n.term n.vars n.env value tree
  pub fits : FitsOver n.situation.ceiling (with_number n.situation.device n.neighbours) (term_type n.term) value
  pub formed : FitsTree n.situation.ceiling n.term tree
  pub only : (v : AnyValue) (t : Tree) → Evaluates n.situation n.place n.term n.vars n.env v t
      → (v ≡ value) × (t ≡ tree)
