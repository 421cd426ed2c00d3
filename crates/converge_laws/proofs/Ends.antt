-- No range of a program goes past its ceiling.
use Rattle.std.proofs.Common.{ℕ, zero, suc, ◌≤◌, ◌+◌, List, [], ◌∷◌, ◌++◌, get_or, arith, Bool, true, false, nat_eq, min}
use Rattle.std.specs.Prelude.{if◌then◌else◌, slice_get}
use Rattle.fc_values.specs.declared.builtins.Builtin.{Builtin}
use Rattle.fc_values.specs.declared.builtins.Builtin.TheVariants as op
use Rattle.fc_values.specs.declared.types.InputTy.{InputTy}
use Rattle.fc_values.specs.declared.types.InputTy.TheVariants as input
use Rattle.fc_values.specs.Types.{LocalType, IntType, BoolType, PairType, ValueType, Declarations, Input}
use Rattle.fc_values.specs.Values.{IntValue, BoolValue, PairValue}
use Rattle.fc_values.specs.BuiltinTypes.{inner}
use Rattle.fc_nodes.specs.Terms.{Leaf, Literal, Variable, Sense, Uid, NbrLink, Term, Terms, Plain, Apply, Nbr, Evolve, If, Let, NoMore, More, size}
use Rattle.fc_nodes.specs.Typing.{Scope, LeafHasType, HasType, HaveTypes}
use Rattle.fc_nodes.specs.Program.{IsLawful, InputsAreLawful, InputIsLawful}
use Rattle.interval_facts.specs.Ranges.{RangeValue, IntRange, BoolRange, PairRange, full, hull, least_range, greatest_range, least_hood, greatest_hood, both_ends, difference, first_range, second_range, range_of_one, range_of_two, range_of_three, sum_cut, product_cut, builtin_range, Bounds, binding_range, input_range, sense_range, leaf_range, term_range, term_ranges, node_ranges, all_node_ranges}
use Rattle.growth_facts.specs.Leads.{greatest_integer}

module _ (m : ℕ) where
  -- no end is past the ceiling
  abbrev pub Within : RangeValue → Type 0
  Within (IntRange a b) = b ≤ m
  Within BoolRange = Unit {0}
  Within (PairRange r s) = Within r × Within s

  abbrev pub AllWithin : List RangeValue → Type 0
  AllWithin [] = Unit {0}
  AllWithin (r ∷ rs) = Within r × AllWithin rs

  abbrev pub BoundsWithin : Bounds → Type 0
  BoundsWithin [] = Unit {0}
  BoundsWithin (b ∷ bs) = Within b.1 × BoundsWithin bs

  pub greatest_within : (r : RangeValue) → Within r → greatest_integer r ≤ m
  greatest_within (IntRange a b) h = h
  greatest_within BoolRange h = omega arith
  greatest_within (PairRange (IntRange a b) s) h = h.0
  greatest_within (PairRange BoolRange s) h = omega arith
  greatest_within (PairRange (PairRange q r) s) h = omega arith

  full_within : (t : LocalType) → Within (full m t)
  full_within IntType = omega arith
  full_within BoolType = tt
  full_within (PairType s t) = (full_within s, full_within t)

  hull_within : (r s : RangeValue) → Within r → Within s → Within (hull r s)
  hull_within (IntRange a b) (IntRange c d) h k = omega (arith, h, k)
  hull_within (PairRange r s) (PairRange u v) h k = (hull_within r u h.0 k.0, hull_within s v h.1 k.1)
  hull_within (IntRange a b) BoolRange h k = h
  hull_within (IntRange a b) (PairRange u v) h k = h
  hull_within BoolRange s h k = tt
  hull_within (PairRange r s) (IntRange a b) h k = h
  hull_within (PairRange r s) BoolRange h k = h

  least_within : (r s : RangeValue) → Within r → Within s → Within (least_range r s)
  least_within (IntRange a b) (IntRange c d) h k = omega (arith, h, k)
  least_within (PairRange r s) (PairRange u v) h k = (least_within r u h.0 k.0, hull_within s v h.1 k.1)
  least_within (IntRange a b) BoolRange h k = h
  least_within (IntRange a b) (PairRange u v) h k = h
  least_within BoolRange s h k = tt
  least_within (PairRange r s) (IntRange a b) h k = h
  least_within (PairRange r s) BoolRange h k = h

  greater_within : (r s : RangeValue) → Within r → Within s → Within (greatest_range r s)
  greater_within (IntRange a b) (IntRange c d) h k = omega (arith, h, k)
  greater_within (PairRange r s) (PairRange u v) h k = (greater_within r u h.0 k.0, hull_within s v h.1 k.1)
  greater_within (IntRange a b) BoolRange h k = h
  greater_within (IntRange a b) (PairRange u v) h k = h
  greater_within BoolRange s h k = tt
  greater_within (PairRange r s) (IntRange a b) h k = h
  greater_within (PairRange r s) BoolRange h k = h

  least_hood_within : (r s : RangeValue) → Within r → Within s → Within (least_hood r s)
  least_hood_within (IntRange a b) (IntRange c d) h k = k
  least_hood_within (PairRange r s) (PairRange u v) h k = (least_hood_within r u h.0 k.0, hull_within s v h.1 k.1)
  least_hood_within (IntRange a b) BoolRange h k = k
  least_hood_within (IntRange a b) (PairRange u v) h k = k
  least_hood_within BoolRange s h k = k
  least_hood_within (PairRange r s) (IntRange a b) h k = k
  least_hood_within (PairRange r s) BoolRange h k = k

  greatest_hood_within : (r s : RangeValue) → Within r → Within s → Within (greatest_hood r s)
  greatest_hood_within (IntRange a b) (IntRange c d) h k = omega (arith, h, k)
  greatest_hood_within (PairRange r s) (PairRange u v) h k = (greatest_hood_within r u h.0 k.0, hull_within s v h.1 k.1)
  greatest_hood_within (IntRange a b) BoolRange h k = k
  greatest_hood_within (IntRange a b) (PairRange u v) h k = k
  greatest_hood_within BoolRange s h k = k
  greatest_hood_within (PairRange r s) (IntRange a b) h k = k
  greatest_hood_within (PairRange r s) BoolRange h k = k

  module _ (other : RangeValue) (free : Within other) where
    ends_within : (f : ℕ → ℕ → ℕ) → ((a b : ℕ) → a ≤ m → b ≤ m → f a b ≤ m) → (r s : RangeValue) → Within r → Within s → Within (both_ends f other r s)
    ends_within f g (IntRange a b) (IntRange c d) h k = g b d h k
    ends_within f g (IntRange a b) BoolRange h k = free
    ends_within f g (IntRange a b) (PairRange u v) h k = free
    ends_within f g BoolRange s h k = free
    ends_within f g (PairRange r s) u h k = free

    difference_within : (r s : RangeValue) → Within r → Within s → Within (difference other r s)
    difference_within (IntRange a b) (IntRange c d) h k = omega (arith, h)
    difference_within (IntRange a b) BoolRange h k = free
    difference_within (IntRange a b) (PairRange u v) h k = free
    difference_within BoolRange s h k = free
    difference_within (PairRange r s) u h k = free

    first_within : (r : RangeValue) → Within r → Within (first_range other r)
    first_within (PairRange r s) h = h.0
    first_within (IntRange a b) h = free
    first_within BoolRange h = free

    second_within : (r : RangeValue) → Within r → Within (second_range other r)
    second_within (PairRange r s) h = h.1
    second_within (IntRange a b) h = free
    second_within BoolRange h = free

    one_within : (f : RangeValue → RangeValue) → ((r : RangeValue) → Within r → Within (f r)) → (rs : List RangeValue) → AllWithin rs → Within (range_of_one f other rs)
    one_within f g (r ∷ []) h = g r h.0
    one_within f g [] h = free
    one_within f g (r ∷ s ∷ rs) h = free

    two_within : (f : RangeValue → RangeValue → RangeValue) → ((r s : RangeValue) → Within r → Within s → Within (f r s)) → (rs : List RangeValue) → AllWithin rs → Within (range_of_two f other rs)
    two_within f g (r ∷ s ∷ []) h = g r s h.0 h.1.0
    two_within f g [] h = free
    two_within f g (r ∷ []) h = free
    two_within f g (r ∷ s ∷ u ∷ rs) h = free

    three_within : (f : RangeValue → RangeValue → RangeValue → RangeValue) → ((r s u : RangeValue) → Within r → Within s → Within u → Within (f r s u)) → (rs : List RangeValue) → AllWithin rs → Within (range_of_three f other rs)
    three_within f g (r ∷ s ∷ u ∷ []) h = g r s u h.0 h.1.0 h.1.1.0
    three_within f g [] h = free
    three_within f g (r ∷ []) h = free
    three_within f g (r ∷ s ∷ []) h = free
    three_within f g (r ∷ s ∷ u ∷ v ∷ rs) h = free

    builtin_within : (o : Builtin) (rs : List RangeValue) → AllWithin rs → Within (builtin_range m other o rs)
    builtin_within op.Add rs h = two_within (both_ends (sum_cut m) other) (ends_within (sum_cut m) (λ a b x y. omega arith)) rs h
    builtin_within op.Sub rs h = two_within (difference other) difference_within rs h
    builtin_within op.Mul rs h = two_within (both_ends (product_cut m) other) (ends_within (product_cut m) (λ a b x y. omega arith)) rs h
    builtin_within op.Rise rs h = three_within (λ a b s. both_ends min other a (both_ends (sum_cut m) other b s))
        (λ r s u x y z. ends_within min (λ a b x y. omega (arith, x)) r (both_ends (sum_cut m) other s u) x (ends_within (sum_cut m) (λ a b x y. omega arith) s u y z)) rs h
    builtin_within op.Min rs h = two_within least_range least_within rs h
    builtin_within op.Max rs h = two_within greatest_range greater_within rs h
    builtin_within op.Less rs h = tt
    builtin_within op.Equal rs h = tt
    builtin_within op.And rs h = tt
    builtin_within op.Or rs h = tt
    builtin_within op.Not rs h = tt
    builtin_within op.Mux rs h = three_within (λ c a b. hull a b) (λ r s u x y z. hull_within s u y z) rs h
    builtin_within op.Pair rs h = two_within PairRange (λ r s x y. (x, y)) rs h
    builtin_within op.Fst rs h = one_within (first_range other) first_within rs h
    builtin_within op.Snd rs h = one_within (second_range other) second_within rs h
    builtin_within op.MinHoodLoc rs h = two_within least_hood least_hood_within rs h
    builtin_within op.MaxHoodLoc rs h = two_within greatest_hood greatest_hood_within rs h
    builtin_within op.SumHood rs h = omega arith
    builtin_within op.AnyHood rs h = tt
    builtin_within op.AllHood rs h = tt

    bound_within : (n : ℕ) (bs : Bounds) → BoundsWithin bs → Within (binding_range other n bs)
    bound_within n [] h = free
    bound_within n (b ∷ bs) h = by_test (nat_eq b.0 n) (bound_within n bs h.1)
      where
        by_test : (c : Bool) → Within (binding_range other n bs) → Within (if c then b.1 else binding_range other n bs)
        by_test true k = h.0
        by_test false k = k

    input_within : (t : InputTy) → InputIsLawful m t → Within (input_range t)
    input_within input.Truth h = tt
    input_within (input.Whole a b) h = h.1

    sense_within : (is : List Input) (i : ℕ) → InputsAreLawful m is → Within (sense_range other (slice_get is i))
    sense_within [] i h = free
    sense_within (x ∷ is) zero h = input_within x.type h.0
    sense_within (x ∷ is) (suc i) h = sense_within is i h.2

  append_within : (rs ss : List RangeValue) → AllWithin rs → AllWithin ss → AllWithin (rs ++ ss)
  append_within [] ss h k = k
  append_within (r ∷ rs) ss h k = (h.0, append_within rs ss h.1 k)

  pub get_within : (rs : List RangeValue) (i : ℕ) → AllWithin rs → Within (get_or rs i BoolRange)
  get_within [] i h = tt
  get_within (r ∷ rs) zero h = h.0
  get_within (r ∷ rs) (suc i) h = get_within rs i h.1

module _ (D : Declarations) (lawful : IsLawful D) where
  abbrev M : ℕ
  M = D.ceiling

  leaf_within : (t : ValueType) (l : Leaf) (bs : Scope) (cs : Bounds) → LeafHasType D bs t l → BoundsWithin M cs → Within M (leaf_range D cs t l)
  leaf_within t (Literal (IntValue n)) bs cs ty h = ty.1
  leaf_within t (Literal (BoolValue b)) bs cs ty h = tt
  leaf_within t (Literal (PairValue a b)) bs cs ty h = absurd ty
  leaf_within t (Variable n) bs cs ty h = bound_within M (full M (inner t)) (full_within M (inner t)) n cs h
  leaf_within t (Sense i) bs cs ty h = sense_within M (full M (inner t)) (full_within M (inner t)) D.inputs i lawful.inputs
  leaf_within t Uid bs cs ty h = omega arith
  leaf_within t NbrLink bs cs ty h = lawful.metric.1

  mutual
    term_within : (t : Term) (p : ℕ) (bs : Scope) (cs : Bounds) → HasType D bs p t → BoundsWithin M cs → Within M (term_range D cs p t)
    term_within (Plain t l) p bs cs ty h = leaf_within t l bs cs ty h
    term_within (Apply t o xs) p bs cs ty h = builtin_within M (full M (inner t)) (full_within M (inner t)) o (term_ranges D cs (suc p) xs) (terms_within xs (suc p) bs cs ty.1 h)
    term_within (Nbr t a) p bs cs ty h = term_within a (suc p) bs cs ty.3 h
    term_within (Evolve t e a u) p bs cs ty h = term_within u (suc p + size a) _ ((p, full M (inner t)) ∷ cs) ty.5 (full_within M (inner t), h)
    term_within (If t c a u) p bs cs ty h =
        hull_within M (term_range D cs (suc p + size c) a) (term_range D cs (suc p + size c + size a) u) (term_within a (suc p + size c) bs cs ty.6 h) (term_within u (suc p + size c + size a) bs cs ty.7 h)
    term_within (Let t a u) p bs cs ty h = term_within u (suc p + size a) _ ((p, term_range D cs (suc p) a) ∷ cs) ty.2 (term_within a (suc p) bs cs ty.1 h, h)

    terms_within : (xs : Terms) (p : ℕ) (bs : Scope) (cs : Bounds) → HaveTypes D bs p xs → BoundsWithin M cs → AllWithin M (term_ranges D cs p xs)
    terms_within NoMore p bs cs ty h = tt
    terms_within (More x xs) p bs cs ty h = (term_within x p bs cs ty.0 h, terms_within xs (p + size x) bs cs ty.1 h)

  mutual
    pub nodes_within : (t : Term) (p : ℕ) (bs : Scope) (cs : Bounds) → HasType D bs p t → BoundsWithin M cs → AllWithin M (node_ranges D cs p t)
    nodes_within (Plain t l) p bs cs ty h = (term_within (Plain t l) p bs cs ty h, tt)
    nodes_within (Apply t o xs) p bs cs ty h = (term_within (Apply t o xs) p bs cs ty h, all_within xs (suc p) bs cs ty.1 h)
    nodes_within (Nbr t a) p bs cs ty h = (term_within (Nbr t a) p bs cs ty h, nodes_within a (suc p) bs cs ty.3 h)
    nodes_within (Evolve t e a u) p bs cs ty h = (
      term_within (Evolve t e a u) p bs cs ty h,
      append_within M (node_ranges D cs (suc p) a) (node_ranges D ((p, full M (inner t)) ∷ cs) (suc p + size a) u) (nodes_within a (suc p) bs cs ty.4 h) (nodes_within u (suc p + size a) _ ((p, full M (inner t)) ∷ cs) ty.5 (full_within M (inner t), h)),
    )
    nodes_within (If t c a u) p bs cs ty h = (
      term_within (If t c a u) p bs cs ty h,
      append_within M (node_ranges D cs (suc p) c) (node_ranges D cs (suc p + size c) a ++ node_ranges D cs (suc p + size c + size a) u) (nodes_within c (suc p) bs cs ty.5 h)
          (append_within M (node_ranges D cs (suc p + size c) a) (node_ranges D cs (suc p + size c + size a) u) (nodes_within a (suc p + size c) bs cs ty.6 h) (nodes_within u (suc p + size c + size a) bs cs ty.7 h)),
    )
    nodes_within (Let t a u) p bs cs ty h = (
      term_within (Let t a u) p bs cs ty h,
      append_within M (node_ranges D cs (suc p) a) (node_ranges D ((p, term_range D cs (suc p) a) ∷ cs) (suc p + size a) u) (nodes_within a (suc p) bs cs ty.1 h)
          (nodes_within u (suc p + size a) _ ((p, term_range D cs (suc p) a) ∷ cs) ty.2 (term_within a (suc p) bs cs ty.1 h, h)),
    )

    all_within : (xs : Terms) (p : ℕ) (bs : Scope) (cs : Bounds) → HaveTypes D bs p xs → BoundsWithin M cs → AllWithin M (all_node_ranges D cs p xs)
    all_within NoMore p bs cs ty h = tt
    all_within (More x xs) p bs cs ty h = append_within M (node_ranges D cs p x) (all_node_ranges D cs (p + size x) xs) (nodes_within x p bs cs ty.0 h) (all_within xs (p + size x) bs cs ty.1 h)
