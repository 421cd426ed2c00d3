-- What a node may see: seats of trees.
use Rattle.std.specs.Prelude.{ℕ, Bool, true, false, ◌≡◌, ◌≤◌, List, [], ◌∷◌, map, Option, Some, None, option_map, nat_eq}
use Rattle.std.specs.Prelude.{not, ◌&&◌, ◌||◌, if◌then◌else◌}
use Rattle.fc_values.specs.Trees.{Tree}
use Rattle.alignment.specs.Environments.{Env, NearTree}
use Rattle.value_bounds.specs.BoundValues.{BoundValue, Between, Truths, Both, Unbounded, is_known}
use Rattle.value_bounds.specs.BoundBuiltins.{Maybes, BoundEntries, AreApart, AnyBound, BoundLocal, BoundField, BoundAny}
use Rattle.bound_firing.specs.BoundTrees.{BoundTree, held, below}

-- a neighbour that may be aligned: its number, the least and the greatest weight, whether it is aligned for sure, and
-- the bound of its tree
pub record NearSeat : Type 0 where
  pub device : ℕ
  pub least : ℕ
  pub greatest : ℕ
  pub sure : Bool
  pub tree : BoundTree

-- the own tree, if there may be one: whether it is there for sure, and its bound; and the neighbours
pub record Seats : Type 0 where
  pub own : Option (Bool × BoundTree)
  pub near : List NearSeat

abbrev pub seat_by : (BoundTree → BoundTree) → NearSeat → NearSeat
seat_by f n =
    record { device = n.device; least = n.least; greatest = n.greatest; sure = n.sure; tree = f n.tree }

abbrev pub own_by : (BoundTree → BoundTree) → Bool × BoundTree → Bool × BoundTree
own_by f o = (o.0, f o.1)

-- each bound is replaced by that of a kid
abbrev pub child_seats : ℕ → Seats → Seats
child_seats i s = record { own = option_map (own_by (below i)) s.own; near = map (seat_by (below i)) s.near }

-- a truth value may be this one; it is known
abbrev pub may_be : Bool → BoundValue → Bool
may_be true (Truths a b) = b
may_be false (Truths a b) = not a
may_be t (Between a b) = true
may_be t (Both a b) = true
may_be t Unbounded = true

abbrev pub is_settled : BoundValue → Bool
is_settled (Truths a b) = is_known (Truths a b)
is_settled (Between a b) = false
is_settled (Both a b) = false
is_settled Unbounded = false

abbrev pub own_branch : Bool → Option (Bool × BoundTree) → Option (Bool × BoundTree)
own_branch t None = None
own_branch t (Some o) = if may_be t (held o.1) then Some (o.0 && is_settled (held o.1), o.1) else None

abbrev pub less_sure : NearSeat → NearSeat
less_sure n = record {
  device = n.device;
  least = n.least;
  greatest = n.greatest;
  sure = n.sure && is_settled (held n.tree);
  tree = n.tree;
}

abbrev pub near_branch : Bool → List NearSeat → List NearSeat
near_branch t [] = []
near_branch t (n ∷ ns) = if may_be t (held n.tree) then less_sure n ∷ near_branch t ns else near_branch t ns

-- those that may keep this truth value; for sure where they were and it is known
abbrev pub branch_seats : Bool → Seats → Seats
branch_seats t s = record { own = own_branch t s.own; near = near_branch t s.near }

-- ---- an environment is seen by seats, by a relation of trees with their bounds

abbrev pub Fitting : Type 1
Fitting = BoundTree → Tree → Type 0

-- no own tree only where it isn't sure, an own tree only where there may be one
abbrev pub OwnSeen : Fitting → Option (Bool × BoundTree) → Option Tree → Type 0
OwnSeen Q None None = Unit {0}
OwnSeen Q None (Some T) = ⊥
OwnSeen Q (Some o) None = o.0 ≡ false
OwnSeen Q (Some o) (Some T) = Q o.1 T

-- a neighbour takes a seat
pub record Takes (Q : Fitting) (s : NearSeat) (n : NearTree) : Type 0 where
  pub device : n.0 ≡ s.device
  pub weight : (s.least ≤ n.1) × (n.1 ≤ s.greatest)
  pub fits : Q s.tree n.2

-- the near trees take some of the seats in order, among them all sure ones
pub data SeenNear (Q : Fitting) : List NearSeat → List NearTree → Type 0 where
  no_seat : SeenNear Q [] []
  takes : (s : NearSeat) (n : NearTree) {ss : List NearSeat} {ns : List NearTree} → Takes Q s n → SeenNear Q ss ns
      → SeenNear Q (s ∷ ss) (n ∷ ns)
  free : (s : NearSeat) {ss : List NearSeat} {ns : List NearTree} → s.sure ≡ false → SeenNear Q ss ns
      → SeenNear Q (s ∷ ss) ns

abbrev pub maybe_of : NearSeat → ℕ × Bool
maybe_of n = (n.device, n.sure)

abbrev pub maybes : List NearSeat → Maybes
maybes ns = map maybe_of ns

pub record Sees (Q : Fitting) (d : ℕ) (seats : Seats) (env : Env) : Type 0 where
  pub own : OwnSeen Q seats.own env.own
  pub near : SeenNear Q seats.near env.near
  pub apart : AreApart d (maybes seats.near)

-- ---- what seats make of fields

abbrev pub is_there : ℕ → Maybes → Bool
is_there k [] = false
is_there k (m ∷ ms) = nat_eq k m.0 || is_there k ms

abbrev pub is_sure : ℕ → Maybes → Bool
is_sure k [] = false
is_sure k (m ∷ ms) = (nat_eq k m.0 && m.1) || is_sure k ms

-- those that may be there too, for sure where they are for sure in both
abbrev pub cut_entries : Maybes → BoundEntries → BoundEntries
cut_entries ss [] = []
cut_entries ss (b ∷ bs) =
    if is_there b.0 ss then (b.0, b.1 && is_sure b.0 ss, b.2) ∷ cut_entries ss bs else cut_entries ss bs

abbrev pub cut_to : Maybes → AnyBound → AnyBound
cut_to ss (BoundLocal b) = BoundLocal b
cut_to ss (BoundField own bs) = BoundField own (cut_entries ss bs)
cut_to ss BoundAny = BoundAny

-- what the tree of a seat holds, and its weight
abbrev pub seat_held : NearSeat → BoundValue
seat_held n = held n.tree

abbrev pub seat_weight : NearSeat → BoundValue
seat_weight n = Between n.least n.greatest

-- a field over the seats
abbrev pub seat_entries : (NearSeat → BoundValue) → List NearSeat → BoundEntries
seat_entries f ns = map (λ (n : NearSeat). (n.device, n.sure, f n)) ns

abbrev pub seat_field : BoundValue → (NearSeat → BoundValue) → List NearSeat → AnyBound
seat_field b f ns = BoundField b (seat_entries f ns)
