-- What scopes and sights of code stand for.
use Rattle.std.specs.Prelude.{ℕ, ◌≡◌, ◌≤◌, ◌+◌, List, [], ◌∷◌, Some, filter, length}
use Rattle.fc_values.specs.Types.{ValueType, TypeLocal, TypeField, local_type_of}
use Rattle.fc_values.specs.BuiltinTypes.{lifted}
use Rattle.fc_values.specs.Fields.{AnyValue, restricted, with_number}
use Rattle.fc_nodes.specs.Typing.{Scope as Types, type_at}
use Rattle.alignment.specs.Scopes.{Vars, variable_at}
use Rattle.alignment.specs.declared.environments.Env.{Env}
use Rattle.scope_columns.specs.declared.scopes.Binder.{Binder}
use Rattle.scope_columns.specs.declared.scopes.Scope.{Scope}
use Rattle.scope_columns.specs.declared.scopes.Scope.TheVariants as scope
use Rattle.scope_columns.specs.declared.scopes.Sight.{Sight}
use Rattle.alignment.specs.References.{numbers_in}
use Rattle.scope_columns.specs.Words.{words_for, value_in, Added, row_of, stays}

-- the devices of a field that is made in an environment: the device itself, and the aligned neighbours
abbrev pub devices_in : ℕ → Env → List ℕ
devices_in d env = with_number d (numbers_in env)

-- the type of a binder's value
abbrev pub binder_type : Binder → ValueType
binder_type b = lifted b.is_field (local_type_of b.ty.now)

-- how many words it takes
abbrev pub binder_words : ℕ → Binder → ℕ
binder_words d b = words_for (binder_type b) (length (devices_in d b.env.now))

-- the binders in scope with the values that stand among the words
abbrev pub vars_in : ℕ → List ℕ → Scope → Vars
vars_in d ws scope.Empty = []
vars_in d ws (scope.Bind' b p rest) =
    (b.place, value_in ws (binder_type b) (devices_in d b.env.now) b.at) ∷ vars_in d ws rest

-- with their types
abbrev pub types_in : Scope → Types
types_in scope.Empty = []
types_in (scope.Bind' b p rest) = (b.place, binder_type b) ∷ types_in rest

-- the value of each stands below a place
abbrev pub StandBelow : ℕ → ℕ → Scope → Type 0
StandBelow d n scope.Empty = Unit {0}
StandBelow d n (scope.Bind' b p rest) = (b.at + binder_words d b ≤ n) × StandBelow d n rest

-- what a node sees fits: binders that stand among so many words, and the row of the device itself
pub record Fits (d n : ℕ) (s : Sight) : Type 0 where
  pub below : StandBelow d n s.vars.now
  pub own : s.own ≡ row_of d (numbers_in s.env.now)

-- a field still has the device and all neighbours that are aligned now
abbrev pub IsAligned : ℕ → List ℕ → ValueType → List ℕ → Type 0
IsAligned d ns (TypeLocal t) ds = Unit {0}
IsAligned d ns (TypeField t) ds = filter (stays d ns) ds ≡ with_number d ns

abbrev pub AreAligned : ℕ → List ℕ → Scope → Type 0
AreAligned d ns scope.Empty = Unit {0}
AreAligned d ns (scope.Bind' b p rest) = IsAligned d ns (binder_type b) (devices_in d b.env.now) × AreAligned d ns rest

-- A variable was added behind the words: its value, restricted to the device and the aligned neighbours.
pub record VariableAdded (d binder : ℕ) (s : Sight) (ws new : List ℕ) : Type 0 where
  pub type : ValueType
  pub has : type_at binder (types_in s.vars.now) ≡ Some type
  pub value : AnyValue
  pub bound : variable_at binder (vars_in d ws s.vars.now) ≡ Some value
  pub added : Added type (devices_in d s.env.now) ws new
  pub is : value_in new type (devices_in d s.env.now) (length ws) ≡ restricted d (numbers_in s.env.now) value
