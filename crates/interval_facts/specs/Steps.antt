-- The range of a node, by a list that has the ranges of the nodes on which it rests at their places.
use Rattle.std.specs.Prelude.{ℕ, suc, ◌≤◌, ◌+◌, List, Option, Some, None, slice_get, slice_index_or as get_or}
use Rattle.fc_values.specs.Types.{ValueType, Declarations}
use Rattle.fc_values.specs.BuiltinTypes.{inner, arity}
use Rattle.fc_nodes.specs.declared.nodes.Node.{Node}
use Rattle.fc_nodes.specs.Terms.{Leaf, Literal, Variable, Sense, Uid, NbrLink, Sort, OfLeaf, OfApply, OfNbr, OfEvolve, OfIf, OfLet, View, Has, view_at, size, term_at}
use Rattle.fc_nodes.specs.Program.{Program}
use Rattle.interval_facts.specs.Ranges.{RangeValue, IntRange, BoolRange, full, hull, builtin_range, literal_range, sense_range}
use Rattle.interval_facts.specs.Picks.{ranges_at}

abbrev pub range_in : List RangeValue → ℕ → RangeValue
range_in rs p = get_or rs p BoolRange

-- the range of the variable of the node at a place: what a `let` binds stands right behind it
abbrev pub variable_range : Declarations → List RangeValue → ℕ → Option View → RangeValue
variable_range D rs n None = BoolRange
variable_range D rs n (Some (Has OfLet t ks)) = range_in rs (suc n)
variable_range D rs n (Some (Has s t ks)) = full D.ceiling (inner t)

abbrev pub leaf_step : Program → List RangeValue → ValueType → Leaf → RangeValue
leaf_step P rs t (Literal v) = literal_range v
leaf_step P rs t (Variable n) = variable_range P.declared rs n (view_at P.nodes n)
leaf_step P rs t (Sense i) = sense_range (full P.declared.ceiling (inner t)) (slice_get P.declared.inputs i)
leaf_step P rs t Uid = IntRange 0 P.declared.ceiling
leaf_step P rs t NbrLink = IntRange P.declared.least P.declared.greatest

abbrev pub step_range : Program → List RangeValue → View → RangeValue
step_range P rs (Has (OfLeaf l) t ks) = leaf_step P rs t l
step_range P rs (Has (OfApply o) t ks) =
    builtin_range P.declared.ceiling (full P.declared.ceiling (inner t)) o (ranges_at rs ks)
step_range P rs (Has OfNbr t ks) = range_in rs (get_or ks 0 0)
step_range P rs (Has (OfEvolve e) t ks) = range_in rs (get_or ks 1 0)
step_range P rs (Has OfIf t ks) = hull (range_in rs (get_or ks 1 0)) (range_in rs (get_or ks 2 0))
step_range P rs (Has OfLet t ks) = range_in rs (get_or ks 1 0)

-- how many kids a node has
abbrev pub kids_taken : Sort → ℕ
kids_taken (OfLeaf l) = 0
kids_taken (OfApply o) = arity o
kids_taken OfNbr = 1
kids_taken (OfEvolve e) = 2
kids_taken OfIf = 3
kids_taken OfLet = 2

-- what the node of a variable binds, in a `let`, or its first value ends before a place
abbrev pub LeafIsBound : List Node → ℕ → Leaf → Type 0
LeafIsBound ns p (Literal v) = Unit {0}
LeafIsBound ns p (Variable n) = suc n + size (term_at ns (suc n)) ≤ p
LeafIsBound ns p (Sense i) = Unit {0}
LeafIsBound ns p Uid = Unit {0}
LeafIsBound ns p NbrLink = Unit {0}

abbrev pub IsBound : List Node → ℕ → Sort → Type 0
IsBound ns p (OfLeaf l) = LeafIsBound ns p l
IsBound ns p (OfApply o) = Unit {0}
IsBound ns p OfNbr = Unit {0}
IsBound ns p (OfEvolve e) = Unit {0}
IsBound ns p OfIf = Unit {0}
IsBound ns p OfLet = Unit {0}
