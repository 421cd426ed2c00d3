-- The ends of a program's ranges are at most its ceiling.
use Rattle.std.proofs.Common.{ℕ, zero, suc, ◌≤◌, ◌+◌, List, [], ◌∷◌, ◌++◌, arith, get_or, Bool, true, false, nat_eq, min}
use Rattle.std.specs.Prelude.{if◌then◌else◌, slice_get}
use Rattle.fc_values.specs.declared.builtins.Builtin.{Builtin}
use Rattle.fc_values.specs.declared.builtins.Builtin.TheVariants as op
use Rattle.fc_values.specs.declared.types.InputTy.{InputTy}
use Rattle.fc_values.specs.declared.types.InputTy.TheVariants as input
use Rattle.fc_values.specs.Types.{LocalType, IntType, BoolType, PairType, ValueType, Declarations, Input}
use Rattle.fc_values.specs.Values.{IntValue, BoolValue, PairValue}
use Rattle.fc_values.specs.BuiltinTypes.{inner}
use Rattle.fc_nodes.specs.Terms.{Leaf, Literal, Variable, Sense, Uid, NbrLink, Term, Terms, Plain, Apply, Nbr, Evolve, If, Let, NoMore, More, size, term_type}
use Rattle.fc_nodes.specs.Typing.{Scope, HasType, HaveTypes, LeafHasType, evolving_type}
use Rattle.fc_nodes.specs.Program.{Program, IsProgram, IsLawful, InputsAreLawful, InputIsLawful, unfolding_of}
use Rattle.interval_facts.specs.Ranges.{RangeValue, IntRange, BoolRange, PairRange, full, hull, least_range, greatest_range, least_hood, greatest_hood, both_ends, difference, first_range, second_range, range_of_one, range_of_two, range_of_three, sum_cut, product_cut, builtin_range, Bounds, binding_range, input_range, sense_range, leaf_range, term_range, term_ranges, node_ranges, all_node_ranges, ranges_of, range_of}

abbrev pub EndsAtMost : ℕ → RangeValue → Type 0
EndsAtMost m (IntRange a b) = (a ≤ m) × (b ≤ m)
EndsAtMost m BoolRange = Unit {0}
EndsAtMost m (PairRange r s) = EndsAtMost m r × EndsAtMost m s

abbrev pub AllEndAtMost : ℕ → List RangeValue → Type 0
AllEndAtMost m [] = Unit {0}
AllEndAtMost m (r ∷ rs) = EndsAtMost m r × AllEndAtMost m rs

abbrev BoundsFew : ℕ → Bounds → Type 0
BoundsFew m [] = Unit {0}
BoundsFew m (b ∷ bs) = EndsAtMost m b.1 × BoundsFew m bs

pub full_few : (m : ℕ) (t : LocalType) → EndsAtMost m (full m t)
full_few m IntType = (omega arith, omega arith)
full_few m BoolType = tt
full_few m (PairType s t) = (full_few m s, full_few m t)

module _ (m : ℕ) where
  hull_few : (r s : RangeValue) → EndsAtMost m r → EndsAtMost m s → EndsAtMost m (hull r s)
  hull_few (IntRange a b) (IntRange c d) f g = let f0 = f.0 in let f1 = f.1 in let g0 = g.0 in let g1 = g.1 in (omega (arith, f0, g0), omega (arith, f1, g1))
  hull_few (IntRange a b) BoolRange f g = f
  hull_few (IntRange a b) (PairRange u v) f g = f
  hull_few BoolRange s f g = f
  hull_few (PairRange r s) (IntRange c d) f g = f
  hull_few (PairRange r s) BoolRange f g = f
  hull_few (PairRange r s) (PairRange u v) f g = (hull_few r u f.0 g.0, hull_few s v f.1 g.1)

  least_few : (r s : RangeValue) → EndsAtMost m r → EndsAtMost m s → EndsAtMost m (least_range r s)
  least_few (IntRange a b) (IntRange c d) f g = let f0 = f.0 in let f1 = f.1 in let g0 = g.0 in let g1 = g.1 in (omega (arith, f0, g0), omega (arith, f1, g1))
  least_few (IntRange a b) BoolRange f g = f
  least_few (IntRange a b) (PairRange u v) f g = f
  least_few BoolRange s f g = f
  least_few (PairRange r s) (IntRange c d) f g = f
  least_few (PairRange r s) BoolRange f g = f
  least_few (PairRange r s) (PairRange u v) f g = (least_few r u f.0 g.0, hull_few s v f.1 g.1)

  greatest_few : (r s : RangeValue) → EndsAtMost m r → EndsAtMost m s → EndsAtMost m (greatest_range r s)
  greatest_few (IntRange a b) (IntRange c d) f g = let f0 = f.0 in let f1 = f.1 in let g0 = g.0 in let g1 = g.1 in (omega (arith, f0, g0), omega (arith, f1, g1))
  greatest_few (IntRange a b) BoolRange f g = f
  greatest_few (IntRange a b) (PairRange u v) f g = f
  greatest_few BoolRange s f g = f
  greatest_few (PairRange r s) (IntRange c d) f g = f
  greatest_few (PairRange r s) BoolRange f g = f
  greatest_few (PairRange r s) (PairRange u v) f g = (greatest_few r u f.0 g.0, hull_few s v f.1 g.1)

  least_hood_few : (r s : RangeValue) → EndsAtMost m r → EndsAtMost m s → EndsAtMost m (least_hood r s)
  least_hood_few (IntRange a b) (IntRange c d) f g = let f0 = f.0 in let g0 = g.0 in (omega (arith, f0, g0), g.1)
  least_hood_few (IntRange a b) BoolRange f g = g
  least_hood_few (IntRange a b) (PairRange u v) f g = g
  least_hood_few BoolRange s f g = g
  least_hood_few (PairRange r s) (IntRange c d) f g = g
  least_hood_few (PairRange r s) BoolRange f g = g
  least_hood_few (PairRange r s) (PairRange u v) f g = (least_hood_few r u f.0 g.0, hull_few s v f.1 g.1)

  greatest_hood_few : (r s : RangeValue) → EndsAtMost m r → EndsAtMost m s → EndsAtMost m (greatest_hood r s)
  greatest_hood_few (IntRange a b) (IntRange c d) f g = let f1 = f.1 in let g1 = g.1 in (g.0, omega (arith, f1, g1))
  greatest_hood_few (IntRange a b) BoolRange f g = g
  greatest_hood_few (IntRange a b) (PairRange u v) f g = g
  greatest_hood_few BoolRange s f g = g
  greatest_hood_few (PairRange r s) (IntRange c d) f g = g
  greatest_hood_few (PairRange r s) BoolRange f g = g
  greatest_hood_few (PairRange r s) (PairRange u v) f g = (greatest_hood_few r u f.0 g.0, hull_few s v f.1 g.1)

  -- both ends by a function whose values are at most the ceiling, where its arguments are
  ends_few : (h : ℕ → ℕ → ℕ) → ((a b : ℕ) → a ≤ m → b ≤ m → h a b ≤ m) → (other r s : RangeValue) → EndsAtMost m other → EndsAtMost m r → EndsAtMost m s → EndsAtMost m (both_ends h other r s)
  ends_few h k other (IntRange a b) (IntRange c d) o f g = (k a c f.0 g.0, k b d f.1 g.1)
  ends_few h k other (IntRange a b) BoolRange o f g = o
  ends_few h k other (IntRange a b) (PairRange u v) o f g = o
  ends_few h k other BoolRange s o f g = o
  ends_few h k other (PairRange r s) t o f g = o

  difference_few : (other r s : RangeValue) → EndsAtMost m other → EndsAtMost m r → EndsAtMost m s → EndsAtMost m (difference other r s)
  difference_few other (IntRange a b) (IntRange c d) o f g = let f0 = f.0 in let f1 = f.1 in (omega (arith, f0), omega (arith, f1))
  difference_few other (IntRange a b) BoolRange o f g = o
  difference_few other (IntRange a b) (PairRange u v) o f g = o
  difference_few other BoolRange s o f g = o
  difference_few other (PairRange r s) t o f g = o

  first_few : (other r : RangeValue) → EndsAtMost m other → EndsAtMost m r → EndsAtMost m (first_range other r)
  first_few other (IntRange a b) o f = o
  first_few other BoolRange o f = o
  first_few other (PairRange r s) o f = f.0

  second_few : (other r : RangeValue) → EndsAtMost m other → EndsAtMost m r → EndsAtMost m (second_range other r)
  second_few other (IntRange a b) o f = o
  second_few other BoolRange o f = o
  second_few other (PairRange r s) o f = f.1

  one_few : (h : RangeValue → RangeValue) → ((r : RangeValue) → EndsAtMost m r → EndsAtMost m (h r)) → (other : RangeValue) (rs : List RangeValue) → EndsAtMost m other → AllEndAtMost m rs → EndsAtMost m (range_of_one h other rs)
  one_few h k other [] o f = o
  one_few h k other (r ∷ []) o f = k r f.0
  one_few h k other (r ∷ s ∷ rs) o f = o

  two_few : (h : RangeValue → RangeValue → RangeValue) → ((r s : RangeValue) → EndsAtMost m r → EndsAtMost m s → EndsAtMost m (h r s)) → (other : RangeValue) (rs : List RangeValue) → EndsAtMost m other → AllEndAtMost m rs → EndsAtMost m (range_of_two h other rs)
  two_few h k other [] o f = o
  two_few h k other (r ∷ []) o f = o
  two_few h k other (r ∷ s ∷ []) o f = k r s f.0 f.1.0
  two_few h k other (r ∷ s ∷ u ∷ rs) o f = o

  three_few : (h : RangeValue → RangeValue → RangeValue → RangeValue) → ((r s u : RangeValue) → EndsAtMost m r → EndsAtMost m s → EndsAtMost m u → EndsAtMost m (h r s u)) → (other : RangeValue) (rs : List RangeValue) → EndsAtMost m other → AllEndAtMost m rs → EndsAtMost m (range_of_three h other rs)
  three_few h k other [] o f = o
  three_few h k other (r ∷ []) o f = o
  three_few h k other (r ∷ s ∷ []) o f = o
  three_few h k other (r ∷ s ∷ u ∷ []) o f = k r s u f.0 f.1.0 f.1.1.0
  three_few h k other (r ∷ s ∷ u ∷ v ∷ rs) o f = o

  sum_few : (a b : ℕ) → a ≤ m → b ≤ m → sum_cut m a b ≤ m
  sum_few a b f g = omega arith

  product_few : (a b : ℕ) → a ≤ m → b ≤ m → product_cut m a b ≤ m
  product_few a b f g = omega arith

  min_few : (a b : ℕ) → a ≤ m → b ≤ m → min a b ≤ m
  min_few a b f g = omega (arith, f)

  builtin_few : (other : RangeValue) (o : Builtin) (rs : List RangeValue) → EndsAtMost m other → AllEndAtMost m rs → EndsAtMost m (builtin_range m other o rs)
  builtin_few other op.Add rs o f = two_few (both_ends (sum_cut m) other) (λ r s g h. ends_few (sum_cut m) sum_few other r s o g h) other rs o f
  builtin_few other op.Sub rs o f = two_few (difference other) (λ r s g h. difference_few other r s o g h) other rs o f
  builtin_few other op.Mul rs o f = two_few (both_ends (product_cut m) other) (λ r s g h. ends_few (product_cut m) product_few other r s o g h) other rs o f
  builtin_few other op.Rise rs o f =
      three_few (λ a b s. both_ends min other a (both_ends (sum_cut m) other b s)) (λ a b s g h k. ends_few min min_few other a (both_ends (sum_cut m) other b s) o g (ends_few (sum_cut m) sum_few other b s o h k)) other rs o f
  builtin_few other op.Min rs o f = two_few least_range least_few other rs o f
  builtin_few other op.Max rs o f = two_few greatest_range greatest_few other rs o f
  builtin_few other op.Less rs o f = tt
  builtin_few other op.Equal rs o f = tt
  builtin_few other op.And rs o f = tt
  builtin_few other op.Or rs o f = tt
  builtin_few other op.Not rs o f = tt
  builtin_few other op.Mux rs o f = three_few (λ c a b. hull a b) (λ c a b g h k. hull_few a b h k) other rs o f
  builtin_few other op.Pair rs o f = two_few PairRange (λ r s g h. (g, h)) other rs o f
  builtin_few other op.Fst rs o f = one_few (first_range other) (λ r g. first_few other r o g) other rs o f
  builtin_few other op.Snd rs o f = one_few (second_range other) (λ r g. second_few other r o g) other rs o f
  builtin_few other op.MinHoodLoc rs o f = two_few least_hood least_hood_few other rs o f
  builtin_few other op.MaxHoodLoc rs o f = two_few greatest_hood greatest_hood_few other rs o f
  builtin_few other op.SumHood rs o f = (omega arith, omega arith)
  builtin_few other op.AnyHood rs o f = tt
  builtin_few other op.AllHood rs o f = tt

  bound_few : (other : RangeValue) (n : ℕ) (bs : Bounds) → EndsAtMost m other → BoundsFew m bs → EndsAtMost m (binding_range other n bs)
  bound_few other n [] o f = o
  bound_few other n (b ∷ bs) o f = by_test (nat_eq b.0 n) (bound_few other n bs o f.1)
    where
      by_test : (c : Bool) → EndsAtMost m (binding_range other n bs) → EndsAtMost m (if c then b.1 else binding_range other n bs)
      by_test true k = f.0
      by_test false k = k

  input_few : (other : RangeValue) (is : List Input) (i : ℕ) → EndsAtMost m other → InputsAreLawful m is → EndsAtMost m (sense_range other (slice_get is i))
  input_few other [] i o f = o
  input_few other (x ∷ is) zero o f = by_input x.type f.0
    where
      by_input : (t : InputTy) → InputIsLawful m t → EndsAtMost m (input_range t)
      by_input input.Truth l = tt
      by_input (input.Whole a b) l = let l0 = l.0 in let l1 = l.1 in (omega (arith, l0, l1), l.1)
  input_few other (x ∷ is) (suc i) o f = input_few other is i o f.2

module _ (D : Declarations) (lawful : IsLawful D) where
  leaf_few : (scope : Scope) (bs : Bounds) (t : ValueType) (l : Leaf) → LeafHasType D scope t l → BoundsFew D.ceiling bs → EndsAtMost D.ceiling (leaf_range D bs t l)
  leaf_few scope bs t (Literal (IntValue n)) h b = (h.1, h.1)
  leaf_few scope bs t (Literal (BoolValue n)) h b = tt
  leaf_few scope bs t (Literal (PairValue u v)) h b = absurd h
  leaf_few scope bs t (Variable n) h b = bound_few D.ceiling (full D.ceiling (inner t)) n bs (full_few D.ceiling (inner t)) b
  leaf_few scope bs t (Sense i) h b = input_few D.ceiling (full D.ceiling (inner t)) D.inputs i (full_few D.ceiling (inner t)) lawful.inputs
  leaf_few scope bs t Uid h b = (omega arith, omega arith)
  leaf_few scope bs t NbrLink h b = let l0 = lawful.metric.0 in let l1 = lawful.metric.1 in (omega (arith, l0, l1), l1)

  mutual
    term_few : (scope : Scope) (bs : Bounds) (p : ℕ) (t : Term) → HasType D scope p t → BoundsFew D.ceiling bs → EndsAtMost D.ceiling (term_range D bs p t)
    term_few scope bs p (Plain t l) h b = leaf_few scope bs t l h b
    term_few scope bs p (Apply t o xs) h b = builtin_few D.ceiling (full D.ceiling (inner t)) o (term_ranges D bs (suc p) xs) (full_few D.ceiling (inner t)) (terms_few scope bs (suc p) xs h.1 b)
    term_few scope bs p (Nbr t a) h b = term_few scope bs (suc p) a h.3 b
    term_few scope bs p (Evolve t e a u) h b = term_few ((p, evolving_type e h.0) ∷ scope) ((p, full D.ceiling (inner t)) ∷ bs) (suc p + size a) u h.5 (full_few D.ceiling (inner t), b)
    term_few scope bs p (If t c u v) h b =
        hull_few D.ceiling (term_range D bs (suc p + size c) u) (term_range D bs (suc p + size c + size u) v) (term_few scope bs (suc p + size c) u h.6 b) (term_few scope bs (suc p + size c + size u) v h.7 b)
    term_few scope bs p (Let t a u) h b = term_few ((p, term_type a) ∷ scope) ((p, term_range D bs (suc p) a) ∷ bs) (suc p + size a) u h.2 (term_few scope bs (suc p) a h.1 b, b)

    terms_few : (scope : Scope) (bs : Bounds) (p : ℕ) (xs : Terms) → HaveTypes D scope p xs → BoundsFew D.ceiling bs → AllEndAtMost D.ceiling (term_ranges D bs p xs)
    terms_few scope bs p NoMore h b = tt
    terms_few scope bs p (More x xs) h b = (term_few scope bs p x h.0 b, terms_few scope bs (p + size x) xs h.1 b)

  both_few : (rs ss : List RangeValue) → AllEndAtMost D.ceiling rs → AllEndAtMost D.ceiling ss → AllEndAtMost D.ceiling (rs ++ ss)
  both_few [] ss f g = g
  both_few (r ∷ rs) ss f g = (f.0, both_few rs ss f.1 g)

  mutual
    nodes_few : (scope : Scope) (bs : Bounds) (p : ℕ) (t : Term) → HasType D scope p t → BoundsFew D.ceiling bs → AllEndAtMost D.ceiling (node_ranges D bs p t)
    nodes_few scope bs p (Plain t l) h b = (term_few scope bs p (Plain t l) h b, tt)
    nodes_few scope bs p (Apply t o xs) h b = (term_few scope bs p (Apply t o xs) h b, all_few scope bs (suc p) xs h.1 b)
    nodes_few scope bs p (Nbr t a) h b = (term_few scope bs p (Nbr t a) h b, nodes_few scope bs (suc p) a h.3 b)
    nodes_few scope bs p (Evolve t e a u) h b = (
      term_few scope bs p (Evolve t e a u) h b,
      both_few (node_ranges D bs (suc p) a) _ (nodes_few scope bs (suc p) a h.4 b)
          (nodes_few ((p, evolving_type e h.0) ∷ scope) ((p, full D.ceiling (inner t)) ∷ bs) (suc p + size a) u h.5 (full_few D.ceiling (inner t), b)),
    )
    nodes_few scope bs p (If t c u v) h b = (
      term_few scope bs p (If t c u v) h b,
      both_few (node_ranges D bs (suc p) c) _ (nodes_few scope bs (suc p) c h.5 b)
          (both_few (node_ranges D bs (suc p + size c) u) _ (nodes_few scope bs (suc p + size c) u h.6 b) (nodes_few scope bs (suc p + size c + size u) v h.7 b)),
    )
    nodes_few scope bs p (Let t a u) h b = (
      term_few scope bs p (Let t a u) h b,
      both_few (node_ranges D bs (suc p) a) _ (nodes_few scope bs (suc p) a h.1 b)
          (nodes_few ((p, term_type a) ∷ scope) ((p, term_range D bs (suc p) a) ∷ bs) (suc p + size a) u h.2 (term_few scope bs (suc p) a h.1 b, b)),
    )

    all_few : (scope : Scope) (bs : Bounds) (p : ℕ) (xs : Terms) → HaveTypes D scope p xs → BoundsFew D.ceiling bs → AllEndAtMost D.ceiling (all_node_ranges D bs p xs)
    all_few scope bs p NoMore h b = tt
    all_few scope bs p (More x xs) h b = both_few (node_ranges D bs p x) _ (nodes_few scope bs p x h.0 b) (all_few scope bs (p + size x) xs h.1 b)

nth_few : (m : ℕ) (rs : List RangeValue) (i : ℕ) → AllEndAtMost m rs → EndsAtMost m (get_or rs i BoolRange)
nth_few m [] i f = tt
nth_few m (r ∷ rs) zero f = f.0
nth_few m (r ∷ rs) (suc i) f = nth_few m rs i f.1

pub range_few : (P : Program) → IsProgram P → (q : ℕ) → EndsAtMost P.declared.ceiling (range_of (unfolding_of P) q)
range_few P h q = nth_few P.declared.ceiling (ranges_of (unfolding_of P)) q (nodes_few P.declared h.lawful [] [] 0 (unfolding_of P).main h.typed tt)
