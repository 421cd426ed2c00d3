-- Ranges: between which integers the values of each node of a program lie, by the program alone.
use Rattle.std.specs.Prelude.{ℕ, suc, ◌≡◌, ◌≤◌, ◌+◌, ◌-◌, ◌*◌, List, [], ◌∷◌, ◌++◌, Option, Some, None, slice_get, slice_index_or as get_or, min, max, nat_eq, if◌then◌else◌}
use Rattle.fc_values.specs.declared.builtins.Builtin.{Builtin}
use Rattle.fc_values.specs.declared.builtins.Builtin.TheVariants as op
use Rattle.fc_values.specs.declared.types.InputTy.{InputTy}
use Rattle.fc_values.specs.declared.types.InputTy.TheVariants as input
use Rattle.fc_values.specs.Types.{LocalType, IntType, BoolType, PairType, ValueType, Declarations, Input}
use Rattle.fc_values.specs.Values.{LocalValue, IntValue, BoolValue, PairValue}
use Rattle.fc_values.specs.Fields.{Entries, AnyValue, ValueLocal, ValueField}
use Rattle.fc_values.specs.BuiltinTypes.{inner}
use Rattle.fc_nodes.specs.Terms.{Leaf, Literal, Variable, Sense, Uid, NbrLink, Term, Terms, Plain, Apply, Nbr, Evolve, If, Let, NoMore, More, size}
use Rattle.fc_nodes.specs.Program.{Unfolding}
use Rattle.interval_facts.specs.declared.intervals.Range.{Range}
use Rattle.interval_facts.specs.declared.intervals.Range.TheVariants as range

-- a range: the least and the greatest integer, truth values, or a range for each component of a pair
pub data RangeValue : Type 0 where
  IntRange : ℕ → ℕ → RangeValue
  BoolRange : RangeValue
  PairRange : RangeValue → RangeValue → RangeValue

abbrev pub range_value : Range → RangeValue
range_value (range.Int least greatest) = IntRange least greatest
range_value range.Bool = BoolRange
range_value (range.Pair' p a q b) = PairRange (range_value a) (range_value b)

-- a local value lies in a range
abbrev pub InRange : RangeValue → LocalValue → Type 0
InRange (IntRange least greatest) (IntValue n) = (least ≤ n) × (n ≤ greatest)
InRange BoolRange (BoolValue b) = Unit {0}
InRange (PairRange r s) (PairValue a b) = InRange r a × InRange s b
InRange _ _ = ⊥

abbrev pub AllInRange : RangeValue → Entries → Type 0
AllInRange r [] = Unit {0}
AllInRange r (e ∷ es) = InRange r e.1 × AllInRange r es

-- a value lies in a range: a field does with each of its values
abbrev pub LiesIn : RangeValue → AnyValue → Type 0
LiesIn r (ValueLocal v) = InRange r v
LiesIn r (ValueField es) = AllInRange r es

-- all values of a type
abbrev pub full : ℕ → LocalType → RangeValue
full ceiling IntType = IntRange 0 ceiling
full ceiling BoolType = BoolRange
full ceiling (PairType s t) = PairRange (full ceiling s) (full ceiling t)

-- ---- ranges of builtins. `other` is the answer for ranges that the builtin's arguments have in no program

-- the least range that holds two ranges of one form
abbrev pub hull : RangeValue → RangeValue → RangeValue
hull (IntRange a b) (IntRange c d) = IntRange (min a c) (max b d)
hull (PairRange r s) (PairRange u v) = PairRange (hull r u) (hull s v)
hull r _ = r

-- the lesser, and the greater, of two values: the first component decides between pairs, so the second may be either's
abbrev pub least_range : RangeValue → RangeValue → RangeValue
least_range (IntRange a b) (IntRange c d) = IntRange (min a c) (min b d)
least_range (PairRange r s) (PairRange u v) = PairRange (least_range r u) (hull s v)
least_range r _ = r

abbrev pub greatest_range : RangeValue → RangeValue → RangeValue
greatest_range (IntRange a b) (IntRange c d) = IntRange (max a c) (max b d)
greatest_range (PairRange r s) (PairRange u v) = PairRange (greatest_range r u) (hull s v)
greatest_range r _ = r

-- the least, and the greatest, of a local value (the second range) and the values of a field (the first)
abbrev pub least_hood : RangeValue → RangeValue → RangeValue
least_hood (IntRange a b) (IntRange c d) = IntRange (min a c) d
least_hood (PairRange r s) (PairRange u v) = PairRange (least_hood r u) (hull s v)
least_hood _ r = r

abbrev pub greatest_hood : RangeValue → RangeValue → RangeValue
greatest_hood (IntRange a b) (IntRange c d) = IntRange c (max b d)
greatest_hood (PairRange r s) (PairRange u v) = PairRange (greatest_hood r u) (hull s v)
greatest_hood _ r = r

-- both ends by a function that rises in both arguments
abbrev pub both_ends : (ℕ → ℕ → ℕ) → RangeValue → RangeValue → RangeValue → RangeValue
both_ends f other (IntRange a b) (IntRange c d) = IntRange (f a c) (f b d)
both_ends f other _ _ = other

-- the least less the greatest, to the greatest less the least, each stopped at 0
abbrev pub difference : RangeValue → RangeValue → RangeValue → RangeValue
difference other (IntRange a b) (IntRange c d) = IntRange (a - d) (b - c)
difference other _ _ = other

abbrev pub first_range : RangeValue → RangeValue → RangeValue
first_range other (PairRange r s) = r
first_range other _ = other

abbrev pub second_range : RangeValue → RangeValue → RangeValue
second_range other (PairRange r s) = s
second_range other _ = other

abbrev pub range_of_one : (RangeValue → RangeValue) → RangeValue → List RangeValue → RangeValue
range_of_one f other (r ∷ []) = f r
range_of_one f other _ = other

abbrev pub range_of_two : (RangeValue → RangeValue → RangeValue) → RangeValue → List RangeValue → RangeValue
range_of_two f other (r ∷ s ∷ []) = f r s
range_of_two f other _ = other

abbrev pub range_of_three : (RangeValue → RangeValue → RangeValue → RangeValue) → RangeValue → List RangeValue
    → RangeValue
range_of_three f other (r ∷ s ∷ u ∷ []) = f r s u
range_of_three f other _ = other

abbrev pub sum_cut : ℕ → ℕ → ℕ → ℕ
sum_cut ceiling a b = min ceiling (a + b)

abbrev pub product_cut : ℕ → ℕ → ℕ → ℕ
product_cut ceiling a b = min ceiling (a * b)

-- the range of a builtin's value from those of its arguments
abbrev pub builtin_range : ℕ → RangeValue → Builtin → List RangeValue → RangeValue
builtin_range ceiling other op.Add rs = range_of_two (both_ends (sum_cut ceiling) other) other rs
builtin_range ceiling other op.Sub rs = range_of_two (difference other) other rs
builtin_range ceiling other op.Mul rs = range_of_two (both_ends (product_cut ceiling) other) other rs
builtin_range ceiling other op.Rise rs =
    range_of_three (λ a b s. both_ends min other a (both_ends (sum_cut ceiling) other b s)) other rs
builtin_range ceiling other op.Min rs = range_of_two least_range other rs
builtin_range ceiling other op.Max rs = range_of_two greatest_range other rs
builtin_range ceiling other op.Less rs = BoolRange
builtin_range ceiling other op.Equal rs = BoolRange
builtin_range ceiling other op.And rs = BoolRange
builtin_range ceiling other op.Or rs = BoolRange
builtin_range ceiling other op.Not rs = BoolRange
builtin_range ceiling other op.Mux rs = range_of_three (λ c a b. hull a b) other rs
builtin_range ceiling other op.Pair rs = range_of_two PairRange other rs
builtin_range ceiling other op.Fst rs = range_of_one (first_range other) other rs
builtin_range ceiling other op.Snd rs = range_of_one (second_range other) other rs
builtin_range ceiling other op.MinHoodLoc rs = range_of_two least_hood other rs
builtin_range ceiling other op.MaxHoodLoc rs = range_of_two greatest_hood other rs
builtin_range ceiling other op.SumHood rs = IntRange 0 ceiling
builtin_range ceiling other op.AnyHood rs = BoolRange
builtin_range ceiling other op.AllHood rs = BoolRange

-- ---- ranges of nodes

-- the binders in scope, by their places, with the ranges of their variables; the nearest counts
abbrev pub Bounds : Type 0
Bounds = List (ℕ × RangeValue)

abbrev pub binding_range : RangeValue → ℕ → Bounds → RangeValue
binding_range other n [] = other
binding_range other n (b ∷ bs) = if nat_eq b.0 n then b.1 else binding_range other n bs

abbrev pub input_range : InputTy → RangeValue
input_range input.Truth = BoolRange
input_range (input.Whole least greatest) = IntRange least greatest

abbrev pub sense_range : RangeValue → Option Input → RangeValue
sense_range other None = other
sense_range other (Some i) = input_range i.type

abbrev pub literal_range : LocalValue → RangeValue
literal_range (IntValue n) = IntRange n n
literal_range (BoolValue b) = BoolRange
literal_range (PairValue a b) = PairRange (literal_range a) (literal_range b)

abbrev pub leaf_range : Declarations → Bounds → ValueType → Leaf → RangeValue
leaf_range D bounds t (Literal v) = literal_range v
leaf_range D bounds t (Variable n) = binding_range (full D.ceiling (inner t)) n bounds
leaf_range D bounds t (Sense i) = sense_range (full D.ceiling (inner t)) (slice_get D.inputs i)
leaf_range D bounds t Uid = IntRange 0 D.ceiling
leaf_range D bounds t NbrLink = IntRange D.least D.greatest

-- the range of a term that stands at a place. The variable of a `rep` or `share` may have any value of its type
abbrev mutual
  pub term_range : Declarations → Bounds → ℕ → Term → RangeValue
  term_range D bounds p (Plain t l) = leaf_range D bounds t l
  term_range D bounds p (Apply t o xs) =
      builtin_range D.ceiling (full D.ceiling (inner t)) o (term_ranges D bounds (suc p) xs)
  term_range D bounds p (Nbr t a) = term_range D bounds (suc p) a
  term_range D bounds p (Evolve t e a b) = term_range D ((p, full D.ceiling (inner t)) ∷ bounds) (suc p + size a) b
  term_range D bounds p (If t c a b) =
      hull (term_range D bounds (suc p + size c) a) (term_range D bounds (suc p + size c + size a) b)
  term_range D bounds p (Let t a b) = term_range D ((p, term_range D bounds (suc p) a) ∷ bounds) (suc p + size a) b

  pub term_ranges : Declarations → Bounds → ℕ → Terms → List RangeValue
  term_ranges D bounds p NoMore = []
  term_ranges D bounds p (More x xs) = term_range D bounds p x ∷ term_ranges D bounds (p + size x) xs

-- the ranges of all nodes of a term, in preorder
abbrev mutual
  pub node_ranges : Declarations → Bounds → ℕ → Term → List RangeValue
  node_ranges D bounds p (Plain t l) = term_range D bounds p (Plain t l) ∷ []
  node_ranges D bounds p (Apply t o xs) = term_range D bounds p (Apply t o xs) ∷ all_node_ranges D bounds (suc p) xs
  node_ranges D bounds p (Nbr t a) = term_range D bounds p (Nbr t a) ∷ node_ranges D bounds (suc p) a
  node_ranges D bounds p (Evolve t e a b) = term_range D bounds p (Evolve t e a b)
      ∷ (node_ranges D bounds (suc p) a ++ node_ranges D ((p, full D.ceiling (inner t)) ∷ bounds) (suc p + size a) b)
  node_ranges D bounds p (If t c a b) = term_range D bounds p (If t c a b)
      ∷ (node_ranges D bounds (suc p) c ++ (node_ranges D bounds (suc p + size c) a
      ++ node_ranges D bounds (suc p + size c + size a) b))
  node_ranges D bounds p (Let t a b) = term_range D bounds p (Let t a b)
      ∷ (node_ranges D bounds (suc p) a ++ node_ranges D ((p, term_range D bounds (suc p) a) ∷ bounds)
      (suc p + size a) b)

  pub all_node_ranges : Declarations → Bounds → ℕ → Terms → List RangeValue
  all_node_ranges D bounds p NoMore = []
  all_node_ranges D bounds p (More x xs) = node_ranges D bounds p x ++ all_node_ranges D bounds (p + size x) xs

-- the ranges of a program's nodes, by their places
abbrev pub ranges_of : Unfolding → List RangeValue
ranges_of U = node_ranges U.declared [] 0 U.main

-- the range of the node at a place
abbrev pub range_of : Unfolding → ℕ → RangeValue
range_of U p = get_or (ranges_of U) p BoolRange

-- these are the ranges of a program's nodes, by their places
abbrev pub AreRangesOf : Unfolding → List RangeValue → Type 0
AreRangesOf U rs = rs ≡ ranges_of U
