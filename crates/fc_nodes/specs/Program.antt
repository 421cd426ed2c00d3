-- What a program is once it is unfolded.
use Rattle.std.specs.Prelude.{ℕ, List, [], ◌∷◌, ◌≡◌, ◌<◌, ◌≤◌, ◌^◌, length}
use Rattle.fc_values.specs.declared.limits.TheConstants.{GREATEST, MOST_NODES}
use Rattle.fc_values.specs.declared.types.InputTy.{InputTy}
use Rattle.fc_values.specs.declared.types.InputTy.TheVariants as input
use Rattle.fc_values.specs.Types.{LocalType, TypeLocal, Declarations, Input, IsRange}
use Rattle.fc_nodes.specs.declared.nodes.Node.{Node}
use Rattle.fc_nodes.specs.Terms.{Term, term_type, term_at, WellFormed}
use Rattle.fc_nodes.specs.Typing.{HasType}

-- what contracts see of an unfolded program: its declarations, and its nodes in preorder
pub record Program : Type 0 where
  pub declared : Declarations
  pub nodes : List Node

-- a program once it is unfolded, as the definitions see it: its declarations, and `main` as a term
pub record Unfolding : Type 0 where
  pub declared : Declarations
  pub main : Term

abbrev pub unfolding_of : Program → Unfolding
unfolding_of p = record { declared = p.declared; main = term_at p.nodes 0 }

abbrev pub InputIsLawful : ℕ → InputTy → Type 0
InputIsLawful ceiling input.Truth = Unit {0}
InputIsLawful ceiling (input.Whole least greatest) = IsRange ceiling least greatest

abbrev pub NoneNamed : List ℕ → List Input → Type 0
NoneNamed name [] = Unit {0}
NoneNamed name (i ∷ is) = (i.name ≡ name → ⊥) × NoneNamed name is

-- the inputs have distinct names, and ranges within the integers
abbrev pub InputsAreLawful : ℕ → List Input → Type 0
InputsAreLawful ceiling [] = Unit {0}
InputsAreLawful ceiling (i ∷ is) = InputIsLawful ceiling i.type × NoneNamed i.name is × InputsAreLawful ceiling is

pub record IsLawful (D : Declarations) : Type 0 where
  pub some : 1 ≤ D.ceiling
  pub most : D.ceiling ≤ GREATEST
  pub few : length D.inputs < 2 ^ 32
  pub inputs : InputsAreLawful D.ceiling D.inputs
  pub metric : IsRange D.ceiling D.least D.greatest

-- lawful declarations, and nodes that are the preorder of a well-typed term of local type
pub record IsProgram (p : Program) : Type 0 where
  pub lawful : IsLawful p.declared
  pub formed : WellFormed p.nodes
  pub typed : HasType p.declared [] 0 (term_at p.nodes 0)
  pub root : (s : LocalType) × (term_type (term_at p.nodes 0) ≡ TypeLocal s)
  pub short : length p.nodes ≤ MOST_NODES
