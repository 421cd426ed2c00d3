-- Kinds of nodes.
use Rattle.std.specs.Prelude.{ℕ, Bool, true, false}
use Rattle.fc_nodes.specs.Terms.{Evolution, ByRep, ByShare, Sort, OfLeaf, OfApply, OfNbr, OfEvolve, OfIf, OfLet}
use Rattle.fc_nodes.specs.Variables.{is_variable}

-- the variable of the binder at a place
abbrev pub is_own_sort : ℕ → Sort → Bool
is_own_sort x (OfLeaf l) = is_variable x l
is_own_sort x (OfApply o) = false
is_own_sort x OfNbr = false
is_own_sort x (OfEvolve e) = false
is_own_sort x OfIf = false
is_own_sort x OfLet = false

abbrev pub is_nbr_sort : Sort → Bool
is_nbr_sort OfNbr = true
is_nbr_sort _ = false

abbrev pub is_let_sort : Sort → Bool
is_let_sort OfLet = true
is_let_sort _ = false

abbrev pub is_evolve_sort : Sort → Bool
is_evolve_sort (OfEvolve e) = true
is_evolve_sort _ = false

abbrev pub is_share_sort : Sort → Bool
is_share_sort (OfEvolve ByShare) = true
is_share_sort _ = false

-- a `rep`, a `share`, an `if` or a `let`
abbrev pub is_deep_sort : Sort → Bool
is_deep_sort (OfEvolve e) = true
is_deep_sort OfIf = true
is_deep_sort OfLet = true
is_deep_sort _ = false

-- how the value of a variable evolves
abbrev pub evolution_by : Bool → Evolution
evolution_by true = ByShare
evolution_by false = ByRep
