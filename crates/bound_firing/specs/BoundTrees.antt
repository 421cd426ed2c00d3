-- Bounds of the trees of exports.
use Rattle.std.specs.Prelude.{ℕ, zero, suc, ◌+◌, List, [], ◌∷◌, true, false, ◌≡◌, Option, Some, None}
use Rattle.fc_values.specs.Types.{LocalType, BoolType}
use Rattle.fc_values.specs.BuiltinTypes.{inner}
use Rattle.fc_values.specs.Values.{LocalValue, BoolValue}
use Rattle.fc_values.specs.Trees.{Tree, kept_of, child}
use Rattle.fc_nodes.specs.Terms.{Term, Terms, Plain, Apply, Nbr, Evolve, If, Let, NoMore, More, kept}
use Rattle.value_bounds.specs.BoundValues.{BoundValue, Unbounded, Lies, anything}

-- A bound of a tree: one of what the node keeps, and those of its kids. Of an `if` it has a kid for the condition and
-- one for each branch
mutual
  pub data BoundTree : Type 0 where
    Hold : BoundValue → BoundTrees → BoundTree

  pub data BoundTrees : Type 0 where
    NoneBelow : BoundTrees
    Below : BoundTree → BoundTrees → BoundTrees

-- that of a node that keeps nothing and has no kids
abbrev pub bare : BoundTree
bare = Hold Unbounded NoneBelow

abbrev pub held : BoundTree → BoundValue
held (Hold b bs) = b

abbrev pub nth_below : ℕ → BoundTrees → BoundTree
nth_below i NoneBelow = bare
nth_below zero (Below b bs) = b
nth_below (suc i) (Below b bs) = nth_below i bs

abbrev pub below : ℕ → BoundTree → BoundTree
below i (Hold b bs) = nth_below i bs

-- the bound of the trees of a term that keep at each node what a function says of its type
abbrev mutual
  pub tree_with : (LocalType → BoundValue) → Term → BoundTree
  tree_with f (Plain t l) = bare
  tree_with f (Apply t o xs) = Hold Unbounded (trees_with f xs)
  tree_with f (Nbr t a) = Hold (f (inner t)) (Below (tree_with f a) NoneBelow)
  tree_with f (Evolve t e a b) = Hold (f (inner t)) (Below (tree_with f a) (Below (tree_with f b) NoneBelow))
  tree_with f (If t c a b) =
      Hold (f BoolType) (Below (tree_with f c) (Below (tree_with f a) (Below (tree_with f b) NoneBelow)))
  tree_with f (Let t a b) = Hold Unbounded (Below (tree_with f a) (Below (tree_with f b) NoneBelow))

  pub trees_with : (LocalType → BoundValue) → Terms → BoundTrees
  trees_with f NoMore = NoneBelow
  trees_with f (More x xs) = Below (tree_with f x) (trees_with f xs)

-- all trees of a term, and those of a branch that is not taken, of which nothing is said
abbrev pub any_tree : ℕ → Term → BoundTree
any_tree ceiling t = tree_with (anything ceiling) t

abbrev pub blank : Term → BoundTree
blank t = tree_with (λ s. Unbounded) t

-- the bound of a tree out of bounds of slots, of a term whose first kept place is slot k, as code has it
abbrev pub slot_bound : ℕ → List BoundValue → BoundValue
slot_bound k [] = Unbounded
slot_bound zero (b ∷ bs) = b
slot_bound (suc k) (b ∷ bs) = slot_bound k bs

abbrev mutual
  pub bound_tree_at : Term → ℕ → List BoundValue → BoundTree
  bound_tree_at (Plain t l) k bs = bare
  bound_tree_at (Apply t o xs) k bs = Hold Unbounded (bound_trees_at xs k bs)
  bound_tree_at (Nbr t a) k bs = Hold (slot_bound k bs) (Below (bound_tree_at a (suc k) bs) NoneBelow)
  bound_tree_at (Evolve t e a b) k bs = Hold (slot_bound k bs)
      (Below (bound_tree_at a (suc k) bs) (Below (bound_tree_at b (suc k + kept a) bs) NoneBelow))
  bound_tree_at (If t c a b) k bs = Hold (slot_bound k bs)
      (Below (bound_tree_at c (suc k) bs) (Below (bound_tree_at a (suc k + kept c) bs)
      (Below (bound_tree_at b (suc k + kept c + kept a) bs) NoneBelow)))
  bound_tree_at (Let t a b) k bs =
      Hold Unbounded (Below (bound_tree_at a k bs) (Below (bound_tree_at b (k + kept a) bs) NoneBelow))

  pub bound_trees_at : Terms → ℕ → List BoundValue → BoundTrees
  bound_trees_at NoMore k bs = NoneBelow
  bound_trees_at (More x xs) k bs = Below (bound_tree_at x k bs) (bound_trees_at xs (k + kept x) bs)

-- a value is kept, and lies in a bound
abbrev pub KeptLies : BoundValue → Option LocalValue → Type 0
KeptLies b None = ⊥
KeptLies b (Some v) = Lies b v

-- a tree of a term lies in a bound; of an `if` the tree of the branch that the kept truth names
abbrev mutual
  pub TreeLies : Term → BoundTree → Tree → Type 0
  TreeLies (Plain t l) B T = Unit {0}
  TreeLies (Apply t o xs) B T = TreesLie 0 xs B T
  TreeLies (Nbr t a) B T = KeptLies (held B) (kept_of T) × TreeLies a (below 0 B) (child 0 T)
  TreeLies (Evolve t e a b) B T =
      KeptLies (held B) (kept_of T) × TreeLies a (below 0 B) (child 0 T) × TreeLies b (below 1 B) (child 1 T)
  TreeLies (If t c a b) B T = KeptLies (held B) (kept_of T) × TreeLies c (below 0 B) (child 0 T)
      × (kept_of T ≡ Some (BoolValue true) → TreeLies a (below 1 B) (child 1 T))
      × (kept_of T ≡ Some (BoolValue false) → TreeLies b (below 2 B) (child 1 T))
  TreeLies (Let t a b) B T = TreeLies a (below 0 B) (child 0 T) × TreeLies b (below 1 B) (child 1 T)

  -- the kids from the i-th on
  pub TreesLie : ℕ → Terms → BoundTree → Tree → Type 0
  TreesLie i NoMore B T = Unit {0}
  TreesLie i (More x xs) B T = TreeLies x (below i B) (child i T) × TreesLie (suc i) xs B T
