-- The evaluation of several places one after another.
use Rattle.std.specs.Prelude.{ℕ, ◌≡◌, ◌+◌, List, [], ◌∷◌, ◌++◌, Some, IsSome, slice_index_or as get_or}
use Rattle.fc_values.specs.Fields.{AnyValue}
use Rattle.fc_values.specs.Trees.{Trees, Done, Then}
use Rattle.fc_values.specs.Exports.{SlotValue}
use Rattle.fc_nodes.specs.declared.nodes.Node.{Node}
use Rattle.fc_nodes.specs.Terms.{size, kept, kept_before, term_at, Laid, WellFormed}
use Rattle.fc_nodes.specs.Layouts.{LayoutValue, IsLayout}
use Rattle.fc_nodes.specs.Flat.{tree_at, Marked}
use Rattle.alignment.specs.Scopes.{Vars}
use Rattle.device_eval.specs.Evaluation.{Situation, Outcomes, and_then, eval_of}
use Rattle.alignment.specs.Slots.{FlatEnv}
use Rattle.device_eval.specs.Environments.{env_at, EnvFits}
use Rattle.device_eval.specs.Walks.{Room, SameOut, Still}

-- the outcomes of these places, in order
abbrev pub outcomes_at : Situation → List Node → List ℕ → Vars → FlatEnv → Outcomes
outcomes_at S ns [] vars env = Some ([], Done)
outcomes_at S ns (k ∷ ks) vars env =
    and_then (eval_of S k (term_at ns k) vars (env_at (term_at ns k) (kept_before ns k) env))
    (outcomes_at S ns ks vars env)

-- the trees that slots stand for, one for each place
abbrev pub row_trees : List Node → List ℕ → List SlotValue → Trees
row_trees ns [] xs = Done
row_trees ns (k ∷ ks) xs = Then (tree_at (term_at ns k) (kept_before ns k) xs) (row_trees ns ks xs)

-- how many slots they have
abbrev pub row_kept : List Node → List ℕ → ℕ
row_kept ns [] = 0
row_kept ns (k ∷ ks) = kept (term_at ns k) + row_kept ns ks

-- the places stand one after another, from q on
abbrev pub Row : List Node → ℕ → List ℕ → Type 0
Row ns q [] = Unit {0}
Row ns q (k ∷ ks) = (k ≡ q) × Laid ns k (term_at ns k) × Row ns (q + size (term_at ns k)) ks

-- the exports have the slots of each of them
abbrev pub FitEach : List Node → List ℕ → FlatEnv → Type 0
FitEach ns [] env = Unit {0}
FitEach ns (k ∷ ks) env = EnvFits (term_at ns k) (kept_before ns k) env × FitEach ns ks env

-- the slots of each of them are marked
abbrev pub MarkedEach : List Node → List ℕ → List SlotValue → Type 0
MarkedEach ns [] xs = Unit {0}
MarkedEach ns (k ∷ ks) xs = Marked (term_at ns k) (kept_before ns k) xs × MarkedEach ns ks xs

-- the first of them
abbrev pub first_of : List ℕ → ℕ
first_of ks = get_or ks 0 0

-- what their evaluation needs
pub record CanEach (S : Situation) (ns : List Node) (ks : List ℕ) (vars : Vars) (env : FlatEnv) (xs : List SlotValue)
    : Type 0 where
  pub row : Row ns (first_of ks) ks
  pub fits : FitEach ns ks env
  pub room : Room (kept_before ns (first_of ks)) (row_kept ns ks) xs
  pub runs : IsSome (outcomes_at S ns ks vars env)

-- places at which evaluation may begin, one after another
pub record ReadyEach (S : Situation) (ns : List Node) (l : LayoutValue) (ks : List ℕ)
    (vars : Vars) (env : FlatEnv) (xs : List SlotValue) : Type 0 where
  pub can : CanEach S ns ks vars env xs
  pub layout : IsLayout ns l
  pub formed : WellFormed ns

-- what it gives: their values are added to others
pub record DidEach (S : Situation) (ns : List Node) (ks : List ℕ) (vars : Vars) (env : FlatEnv)
    (xs : List SlotValue) (old new : List AnyValue) (ys : List SlotValue) : Type 0 where
  pub vs : List AnyValue
  pub added : new ≡ old ++ vs
  pub gives : outcomes_at S ns ks vars env ≡ Some (vs, row_trees ns ks ys)
  pub marked : MarkedEach ns ks ys
  pub out : SameOut (kept_before ns (first_of ks)) (row_kept ns ks) xs ys
  pub still : Still xs ys
