-- Seats over flat slots are those of kids and branches, and hold what slots hold.
use Rattle.std.proofs.Common.{◌≡◌, ℕ, zero, suc, ◌+◌, List, [], ◌∷◌, map, refl, Bool, true, false, ◌&&◌}
use Rattle.std.proofs.Common.{Option, Some, None, option_map, if◌then◌else◌}
use Rattle.fc_values.specs.Types.{ValueType}
use Rattle.fc_values.specs.declared.builtins.Builtin.{Builtin}
use Rattle.fc_nodes.specs.Terms.{Evolution, Term, Terms, Apply, Nbr, Evolve, If, Let, More, kept}
use Rattle.value_bounds.specs.BoundValues.{BoundValue}
use Rattle.bound_firing.specs.BoundTrees.{BoundTree, BoundTrees, NoneBelow, Below, held, nth_below, below}
use Rattle.bound_firing.specs.BoundTrees.{slot_bound, bound_tree_at, bound_trees_at}
use Rattle.bound_firing.specs.Seats.{child_seats, seat_by, own_by, may_be, is_settled, own_branch, near_branch}
use Rattle.bound_firing.specs.Seats.{branch_seats, maybes, seat_held, seat_weight, seat_entries}
use Rattle.bound_firing.specs.Firing.{own_bound}
use Rattle.bound_firing.specs.FlatSeats.{FlatSeat, FlatSeats, seat_over, own_over, seats_over, flat_maybes}
use Rattle.bound_firing.specs.FlatSeats.{flat_own_branch, flat_near_branch, flat_less_sure, flat_branch, flat_entries}
use Rattle.bound_firing.specs.FlatSeats.{flat_weight, flat_slot, flat_own_bound, SlotsHave, OwnHasSlot, NearHaveSlot}

-- ---- kids

-- the kid of a term at slot k is another term at slot l
abbrev pub IsKid : ℕ → Term → ℕ → Term → ℕ → Type 0
IsKid i t k u l = (xs : List BoundValue) → below i (bound_tree_at t k xs) ≡ bound_tree_at u l xs

module _ (i : ℕ) (t : Term) (k : ℕ) (u : Term) (l : ℕ) (kid : IsKid i t k u l) where
  own_kid : (o : Option (Bool × List BoundValue))
      → option_map (own_by (below i)) (option_map (own_over t k) o) ≡ option_map (own_over u l) o
  own_kid None = refl
  own_kid (Some o) = let e = kid o.1 in rw e refl

  near_kid : (ns : List FlatSeat) → map (seat_by (below i)) (map (seat_over t k) ns) ≡ map (seat_over u l) ns
  near_kid [] = refl
  near_kid (n ∷ ns) = let e = kid n.slots in let r = near_kid ns in rw (e, r) refl

  pub kid_seats : (F : FlatSeats) → child_seats i (seats_over t k F) ≡ seats_over u l F
  kid_seats F = let o = own_kid F.own in let n = near_kid F.near in rw (o, n) refl

module _ (k : ℕ) (F : FlatSeats) (t : ValueType) where
  pub nbr_seats : (a : Term) → child_seats 0 (seats_over (Nbr t a) k F) ≡ seats_over a (suc k) F
  nbr_seats a = kid_seats 0 (Nbr t a) k a (suc k) (λ xs. refl) F

  pub first_seats : (e : Evolution) (a b : Term)
      → child_seats 0 (seats_over (Evolve t e a b) k F) ≡ seats_over a (suc k) F
  first_seats e a b = kid_seats 0 (Evolve t e a b) k a (suc k) (λ xs. refl) F

  pub body_seats : (e : Evolution) (a b : Term)
      → child_seats 1 (seats_over (Evolve t e a b) k F) ≡ seats_over b (suc k + kept a) F
  body_seats e a b = kid_seats 1 (Evolve t e a b) k b (suc k + kept a) (λ xs. refl) F

  pub condition_seats : (c a b : Term) → child_seats 0 (seats_over (If t c a b) k F) ≡ seats_over c (suc k) F
  condition_seats c a b = kid_seats 0 (If t c a b) k c (suc k) (λ xs. refl) F

  pub then_seats : (c a b : Term) → child_seats 1 (seats_over (If t c a b) k F) ≡ seats_over a (suc k + kept c) F
  then_seats c a b = kid_seats 1 (If t c a b) k a (suc k + kept c) (λ xs. refl) F

  pub else_seats : (c a b : Term)
      → child_seats 2 (seats_over (If t c a b) k F) ≡ seats_over b (suc k + kept c + kept a) F
  else_seats c a b = kid_seats 2 (If t c a b) k b (suc k + kept c + kept a) (λ xs. refl) F

  pub bound_seats : (a b : Term) → child_seats 0 (seats_over (Let t a b) k F) ≡ seats_over a k F
  bound_seats a b = kid_seats 0 (Let t a b) k a k (λ xs. refl) F

  pub scope_seats : (a b : Term) → child_seats 1 (seats_over (Let t a b) k F) ≡ seats_over b (k + kept a) F
  scope_seats a b = kid_seats 1 (Let t a b) k b (k + kept a) (λ xs. refl) F

-- the kids of an application from the i-th on
abbrev pub below_from : ℕ → BoundTrees → BoundTrees
below_from zero bs = bs
below_from (suc i) NoneBelow = NoneBelow
below_from (suc i) (Below b bs) = below_from i bs

-- of the terms at slot k those from the i-th on are others at slot l
abbrev pub IsRest : ℕ → Terms → ℕ → Terms → ℕ → Type 0
IsRest i all k us l = (xs : List BoundValue) → below_from i (bound_trees_at all k xs) ≡ bound_trees_at us l xs

pub rest_all : (all : Terms) (k : ℕ) → IsRest 0 all k all k
rest_all all k xs = refl

from_first : (i : ℕ) (bs : BoundTrees) (c : BoundTree) (cs : BoundTrees) → below_from i bs ≡ Below c cs
    → nth_below i bs ≡ c
from_first zero NoneBelow c cs e = absurd cc
from_first zero (Below b bs) c cs e = cc
from_first (suc i) NoneBelow c cs e = absurd cc
from_first (suc i) (Below b bs) c cs e = from_first i bs c cs e

from_rest : (i : ℕ) (bs : BoundTrees) (c : BoundTree) (cs : BoundTrees) → below_from i bs ≡ Below c cs
    → below_from (suc i) bs ≡ cs
from_rest zero NoneBelow c cs e = absurd cc
from_rest zero (Below b bs) c cs e = cc
from_rest (suc i) NoneBelow c cs e = absurd cc
from_rest (suc i) (Below b bs) c cs e = from_rest i bs c cs e

module _ (i : ℕ) (all : Terms) (k : ℕ) (u : Term) (us : Terms) (l : ℕ) (rest : IsRest i all k (More u us) l) where
  pub rest_next : IsRest (suc i) all k us (l + kept u)
  rest_next xs = from_rest i (bound_trees_at all k xs) (bound_tree_at u l xs) (bound_trees_at us (l + kept u) xs)
      (rest xs)

  pub argument_seats : (t : ValueType) (o : Builtin) (F : FlatSeats)
      → child_seats i (seats_over (Apply t o all) k F) ≡ seats_over u l F
  argument_seats t o F = kid_seats i (Apply t o all) k u l
      (λ xs. from_first i (bound_trees_at all k xs) (bound_tree_at u l xs) (bound_trees_at us (l + kept u) xs)
      (rest xs)) F

-- ---- branches, and fields

-- a term keeps at its root what slot k holds
abbrev pub IsRoot : Term → ℕ → Type 0
IsRoot t k = (xs : List BoundValue) → held (bound_tree_at t k xs) ≡ slot_bound k xs

module _ (t : Term) (k : ℕ) (root : IsRoot t k) where
  own_taken : (b : Bool) (o : Option (Bool × List BoundValue))
      → own_branch b (option_map (own_over t k) o) ≡ option_map (own_over t k) (flat_own_branch k b o)
  own_taken b None = refl
  own_taken b (Some o) = let e = root o.1 in rw e (by_test (may_be b (slot_bound k o.1)))
    where
      by_test : (c : Bool) → (if c then Some (o.0 && is_settled (slot_bound k o.1), bound_tree_at t k o.1) else None)
          ≡ option_map (own_over t k) (if c then Some (o.0 && is_settled (slot_bound k o.1), o.1) else None)
      by_test true = refl
      by_test false = refl

  near_taken : (b : Bool) (ns : List FlatSeat)
      → near_branch b (map (seat_over t k) ns) ≡ map (seat_over t k) (flat_near_branch k b ns)
  near_taken b [] = refl
  near_taken b (n ∷ ns) =
      let e = root n.slots in
      let r = near_taken b ns in
      rw (e, r) (by_test (may_be b (slot_bound k n.slots)))
    where
      by_test : (c : Bool) → (if c then (seat_over t k (flat_less_sure k n) ∷ map (seat_over t k)
          (flat_near_branch k b ns)) else map (seat_over t k) (flat_near_branch k b ns))
          ≡ map (seat_over t k) (if c then (flat_less_sure k n ∷ flat_near_branch k b ns) else flat_near_branch k b ns)
      by_test true = refl
      by_test false = refl

  pub taken_seats : (b : Bool) (F : FlatSeats) → branch_seats b (seats_over t k F) ≡ seats_over t k (flat_branch k b F)
  taken_seats b F = let o = own_taken b F.own in let n = near_taken b F.near in rw (o, n) refl

  pub held_entries : (ns : List FlatSeat)
      → seat_entries seat_held (map (seat_over t k) ns) ≡ flat_entries (flat_slot k) ns
  held_entries [] = refl
  held_entries (n ∷ ns) = let e = root n.slots in let r = held_entries ns in rw (e, r) refl

  pub own_held : (o : Option (Bool × List BoundValue)) (first : BoundValue)
      → own_bound (option_map (own_over t k) o) first ≡ flat_own_bound k o first
  own_held None first = refl
  own_held (Some o) first = let e = root o.1 in rw e refl

pub weight_entries : (t : Term) (k : ℕ) (ns : List FlatSeat)
    → seat_entries seat_weight (map (seat_over t k) ns) ≡ flat_entries flat_weight ns
weight_entries t k [] = refl
weight_entries t k (n ∷ ns) = let r = weight_entries t k ns in rw r refl

pub seat_maybes : (t : Term) (k : ℕ) (ns : List FlatSeat) → maybes (map (seat_over t k) ns) ≡ flat_maybes ns
seat_maybes t k [] = refl
seat_maybes t k (n ∷ ns) = let r = seat_maybes t k ns in rw r refl

pub branch_taken : (t : ValueType) (c a b : Term) (k : ℕ) (truth : Bool) (F : FlatSeats)
    → branch_seats truth (seats_over (If t c a b) k F) ≡ seats_over (If t c a b) k (flat_branch k truth F)
branch_taken t c a b k truth F = taken_seats (If t c a b) k (λ xs. refl) truth F

pub nbr_entries : (t : ValueType) (a : Term) (k : ℕ) (ns : List FlatSeat)
    → seat_entries seat_held (map (seat_over (Nbr t a) k) ns) ≡ flat_entries (flat_slot k) ns
nbr_entries t a k ns = held_entries (Nbr t a) k (λ xs. refl) ns

pub evolve_entries : (t : ValueType) (e : Evolution) (a b : Term) (k : ℕ) (ns : List FlatSeat)
    → seat_entries seat_held (map (seat_over (Evolve t e a b) k) ns) ≡ flat_entries (flat_slot k) ns
evolve_entries t e a b k ns = held_entries (Evolve t e a b) k (λ xs. refl) ns

pub evolve_own : (t : ValueType) (e : Evolution) (a b : Term) (k : ℕ) (o : Option (Bool × List BoundValue))
    (first : BoundValue) → own_bound (option_map (own_over (Evolve t e a b) k) o) first ≡ flat_own_bound k o first
evolve_own t e a b k o first = own_held (Evolve t e a b) k (λ xs. refl) o first

-- ---- slots that are there

own_stays : (j k : ℕ) (b : Bool) (o : Option (Bool × List BoundValue)) → OwnHasSlot j o
    → OwnHasSlot j (flat_own_branch k b o)
own_stays j k b None h = tt
own_stays j k b (Some o) h = by_test (may_be b (slot_bound k o.1))
  where
    by_test : (c : Bool) → OwnHasSlot j (if c then Some (o.0 && is_settled (slot_bound k o.1), o.1) else None)
    by_test true = h
    by_test false = tt

near_stay : (j k : ℕ) (b : Bool) (ns : List FlatSeat) → NearHaveSlot j ns → NearHaveSlot j (flat_near_branch k b ns)
near_stay j k b [] h = tt
near_stay j k b (n ∷ ns) h = by_test (may_be b (slot_bound k n.slots)) (near_stay j k b ns h.1)
  where
    by_test : (c : Bool) → NearHaveSlot j (flat_near_branch k b ns)
        → NearHaveSlot j (if c then (flat_less_sure k n ∷ flat_near_branch k b ns) else flat_near_branch k b ns)
    by_test true r = (h.0, r)
    by_test false r = r

pub branch_has : (j k : ℕ) (b : Bool) (F : FlatSeats) → SlotsHave j F → SlotsHave j (flat_branch k b F)
branch_has j k b F h = (own_stays j k b F.own h.0, near_stay j k b F.near h.1)
