-- Where variables stand, and where terms end.
use Rattle.std.specs.Prelude.{ℕ, zero, suc, Bool, true, false, ◌≡◌, ◌<◌, ◌≤◌, ◌+◌, List, [], ◌∷◌, ◌++◌, length, map, Option, Some, None, Vec, slice_index_or as get_or}
use Rattle.std.specs.declared.alloc.Global.{Global}
use Rattle.fc_nodes.specs.declared.nodes.Node.{Node}
use Rattle.fc_nodes.specs.Terms.{Sort, View, Has, OfLeaf, Variable, view_at, size, term_at}
use Rattle.fc_nodes.specs.Sorts.{is_own_sort}

-- whether the variable of the binder x stands at a place
abbrev pub is_own_view : ℕ → Option View → Bool
is_own_view x (Some (Has s t ks)) = is_own_sort x s
is_own_view x None = false

abbrev pub is_use : List Node → ℕ → ℕ → Bool
is_use ns x p = is_own_view x (view_at ns p)

abbrev pub place_if : Bool → ℕ → List ℕ
place_if true p = p ∷ []
place_if false p = []

-- the places before another at which the variable of x stands, rising
unfoldable pub uses_before : List Node → ℕ → ℕ → List ℕ
uses_before ns x zero = []
uses_before ns x (suc k) = uses_before ns x k ++ place_if (is_use ns x k) k

-- for each binder, by its place, the places of its variable
abbrev pub AreUses : List Node → List (List ℕ) → Type 0
AreUses ns uses = (x : ℕ) → get_or uses x [] ≡ uses_before ns x (length ns)

-- for each place from a given one on, the first place after the term there
pub record AreEndsFrom (ns : List Node) (from : ℕ) (ends : List ℕ) : Type 0 where
  pub many : length ends ≡ length ns
  pub each : (p : ℕ) → from ≤ p → p < length ns → get_or ends p 0 ≡ p + size (term_at ns p)

abbrev pub AreEnds : List Node → List ℕ → Type 0
AreEnds ns ends = AreEndsFrom ns 0 ends

-- ---- while they are being collected

abbrev pub lists_of : List (Vec ℕ Global) → List (List ℕ)
lists_of vs = map (λ v. v.items) vs

-- one more place of the variable of a binder, where there is a list for it
abbrev pub noted : List (List ℕ) → ℕ → ℕ → List (List ℕ)
noted [] x p = []
noted (us ∷ uss) zero p = (us ++ p ∷ []) ∷ uss
noted (us ∷ uss) (suc x) p = us ∷ noted uss x p

abbrev pub noted_sort : List (List ℕ) → Sort → ℕ → List (List ℕ)
noted_sort uss (OfLeaf (Variable x)) p = noted uss x p
noted_sort uss _ p = uss

-- for each binder, the places of its variable before k
pub record AreUsesBefore (ns : List Node) (k : ℕ) (uses : List (List ℕ)) : Type 0 where
  pub many : length uses ≡ length ns
  pub each : (x : ℕ) → x < length ns → get_or uses x [] ≡ uses_before ns x k
