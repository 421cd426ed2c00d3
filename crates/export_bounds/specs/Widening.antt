-- Either of two bounds out of their slots, as code has them: written over those of the second.
use Rattle.std.specs.Prelude.{ℕ, Bool, true, false, ◌≡◌, ◌≤◌, ◌+◌, List, length, Option, Some, None}
use Rattle.fc_values.specs.Types.{LocalType}
use Rattle.fc_nodes.specs.declared.nodes.Node.{Node}
use Rattle.fc_nodes.specs.Terms.{Term, Terms, NoMore, More, kept, kept_all, term_at, terms_by}
use Rattle.fc_nodes.specs.Places.{StandsAt, StandAfter}
use Rattle.value_trees.specs.SlotFits.{after_own}
use Rattle.value_bounds.specs.declared.bounds.LocalBound.{LocalBound}
use Rattle.value_bounds.specs.BoundValues.{BoundValue, either}
use Rattle.value_bounds.specs.References.{local_bounds_in}
use Rattle.bound_firing.specs.BoundTrees.{BoundTree, slot_bound, bound_tree_at}
use Rattle.bound_firing.specs.Seats.{may_be}
use Rattle.bound_firing.specs.Walks.{SameOut}
use Rattle.export_bounds.specs.Exports.{either_tree}
use Rattle.export_bounds.specs.declared.either.Side.{Side}
use Rattle.export_bounds.specs.declared.either.Side.TheVariants as side
use Rattle.export_bounds.specs.declared.either.Visit.{Visit}

-- ---- whose slots count

-- the bound, and the tree, of either or of the one alone
abbrev pub side_bound : Side → BoundValue → BoundValue → BoundValue
side_bound side.Both a b = either a b
side_bound side.First a b = a
side_bound side.Second a b = b

abbrev pub side_tree : Side → Term → BoundTree → BoundTree → BoundTree
side_tree side.Both t B C = either_tree t B C
side_tree side.First t B C = B
side_tree side.Second t B C = C

-- in a branch where both counted: by whether each may take it
abbrev pub branch_by : Bool → Bool → Side
branch_by true true = side.Both
branch_by true false = side.First
branch_by false c = side.Second

-- in the branch of a truth value, out of what an `if` has in both
abbrev pub side_in : Side → Bool → BoundValue → BoundValue → Side
side_in side.Both truth a b = branch_by (may_be truth a) (may_be truth b)
side_in side.First truth a b = side.First
side_in side.Second truth a b = side.Second

-- ---- what is written

-- so many slots are there in both
pub record AreThere (n : ℕ) (xs ys : List LocalBound) : Type 0 where
  pub first : n ≤ length xs
  pub second : n ≤ length ys

-- slot k
pub record SlotWidened (s : Side) (k : ℕ) (xs ys zs : List BoundValue) : Type 0 where
  pub held : slot_bound k zs ≡ side_bound s (slot_bound k xs) (slot_bound k ys)
  pub out : SameOut k 1 ys zs

-- the slots of a term from slot k on, and where they end
pub record Widened (s : Side) (t : Term) (k : ℕ) (xs ys zs : List BoundValue) (n : ℕ) : Type 0 where
  pub tree : bound_tree_at t k zs ≡ side_tree s t (bound_tree_at t k xs) (bound_tree_at t k ys)
  pub out : SameOut k (kept t) ys zs
  pub end : n ≡ k + kept t

-- those of terms one after another
abbrev pub AreOfSide : Side → Terms → ℕ → List BoundValue → List BoundValue → List BoundValue → Type 0
AreOfSide s NoMore k xs ys zs = Unit {0}
AreOfSide s (More t ts) k xs ys zs =
    (bound_tree_at t k zs ≡ side_tree s t (bound_tree_at t k xs) (bound_tree_at t k ys))
    × AreOfSide s ts (k + kept t) xs ys zs

pub record AllWidened (s : Side) (ts : Terms) (k : ℕ) (xs ys zs : List BoundValue) (n : ℕ) : Type 0 where
  pub trees : AreOfSide s ts k xs ys zs
  pub out : SameOut k (kept_all ts) ys zs
  pub end : n ≡ k + kept_all ts

-- the slot of what a node keeps itself, if it keeps something
abbrev pub OwnOfSide : Side → Option LocalType → ℕ → List BoundValue → List BoundValue → List BoundValue → Type 0
OwnOfSide s None k xs ys zs = Unit {0}
OwnOfSide s (Some t) k xs ys zs = slot_bound k zs ≡ side_bound s (slot_bound k xs) (slot_bound k ys)

abbrev pub own_kept : Option LocalType → ℕ
own_kept None = 0
own_kept (Some t) = 1

pub record OwnWidened (s : Side) (o : Option LocalType) (k : ℕ) (xs ys zs : List BoundValue) (n : ℕ) : Type 0 where
  pub held : OwnOfSide s o k xs ys zs
  pub out : SameOut k (own_kept o) ys zs
  pub end : n ≡ after_own o k

-- ---- at places of a program

-- the term there, with its slots from slot k on
pub record CanWiden (ns : List Node) (p k : ℕ) (xs ys : List LocalBound) : Type 0 where
  pub stands : StandsAt ns p
  pub within : AreThere (k + kept (term_at ns p)) xs ys

-- terms one after another, all of them behind place p
pub record CanWidenAll (ns : List Node) (p : ℕ) (ks : List ℕ) (k : ℕ) (xs ys : List LocalBound) : Type 0 where
  pub stand : StandAfter ns p ks
  pub within : AreThere (k + kept_all (terms_by (term_at ns) ks)) xs ys

-- ---- in the words of the code

abbrev pub nodes_in : Visit → List Node
nodes_in v = v.program.now.nodes

abbrev pub CanWidenAt : Visit → ℕ → List LocalBound → List LocalBound → Type 0
CanWidenAt v k xs ys = CanWiden (nodes_in v) v.place k xs ys

abbrev pub WidenedAt : Visit → ℕ → List LocalBound → List LocalBound → List LocalBound → ℕ → Type 0
WidenedAt v k xs old new n = Widened v.side (term_at (nodes_in v) v.place) k (local_bounds_in xs) (local_bounds_in old)
    (local_bounds_in new) n

abbrev pub CanWidenKidsAt : Visit → List ℕ → ℕ → List LocalBound → List LocalBound → Type 0
CanWidenKidsAt v ks k xs ys = CanWidenAll (nodes_in v) v.place ks k xs ys

abbrev pub KidsWidenedAt : Visit → List ℕ → ℕ → List LocalBound → List LocalBound → List LocalBound → ℕ → Type 0
KidsWidenedAt v ks k xs old new n = AllWidened v.side (terms_by (term_at (nodes_in v)) ks) k (local_bounds_in xs)
    (local_bounds_in old) (local_bounds_in new) n

abbrev pub OwnWidenedAt : Side → Option LocalType → ℕ → List LocalBound → List LocalBound → List LocalBound → ℕ
    → Type 0
OwnWidenedAt s o k xs old new n = OwnWidened s o k (local_bounds_in xs) (local_bounds_in old) (local_bounds_in new) n

abbrev pub SlotWidenedAt : Side → ℕ → List LocalBound → List LocalBound → List LocalBound → Type 0
SlotWidenedAt s k xs old new = SlotWidened s k (local_bounds_in xs) (local_bounds_in old) (local_bounds_in new)
