-- Which trees are exports of a program, and which tree a list of slots stands for.
use Rattle.std.specs.Prelude.{ℕ, suc, true, false, ◌≡◌, ◌<◌, ◌≤◌, ◌+◌, List, [], ◌∷◌, Some, None}
use Rattle.fc_values.specs.Types.{LocalType}
use Rattle.fc_values.specs.Values.{LocalValue, IntValue, BoolValue, PairValue, Fits, form_of}
use Rattle.fc_values.specs.BuiltinTypes.{inner}
use Rattle.fc_values.specs.Trees.{Tree, Trees, Keep, Done, Then, leaf, TreeExport}
use Rattle.fc_values.specs.Exports.{SlotValue, FlatExport, slot_at}
use Rattle.fc_nodes.specs.Terms.{Term, Terms, Plain, Apply, Nbr, Evolve, If, Let, NoMore, More, term_type, kept, kept_types}
use Rattle.fc_nodes.specs.Program.{Unfolding}

-- a tree of a form: what it keeps, and its kids
abbrev pub HasKids : (Trees → Type 0) → Tree → Type 0
HasKids Q (Keep None ts) = Q ts
HasKids Q (Keep (Some v) ts) = ⊥

abbrev pub KeepsWith : (LocalValue → Type 0) → (Trees → Type 0) → Tree → Type 0
KeepsWith P Q (Keep None ts) = ⊥
KeepsWith P Q (Keep (Some v) ts) = P v × Q ts

abbrev pub NoKid : Trees → Type 0
NoKid Done = Unit {0}
NoKid (Then t ts) = ⊥

abbrev pub OneMore : (Tree → Type 0) → (Trees → Type 0) → Trees → Type 0
OneMore P Q Done = ⊥
OneMore P Q (Then t ts) = P t × Q ts

abbrev pub OneKid : (Tree → Type 0) → Trees → Type 0
OneKid P ts = OneMore P NoKid ts

abbrev pub TwoKids : (Tree → Type 0) → (Tree → Type 0) → Trees → Type 0
TwoKids P Q ts = OneMore P (OneKid Q) ts

-- a tree that keeps a truth value: one kid fits the condition, and one the branch that the truth names
abbrev pub KeepsTruth : (Tree → Type 0) → (Tree → Type 0) → (Tree → Type 0) → Tree → Type 0
KeepsTruth C A B (Keep (Some (BoolValue true)) ts) = TwoKids C A ts
KeepsTruth C A B (Keep (Some (BoolValue false)) ts) = TwoKids C B ts
KeepsTruth C A B (Keep (Some (IntValue n)) ts) = ⊥
KeepsTruth C A B (Keep (Some (PairValue v w)) ts) = ⊥
KeepsTruth C A B (Keep None ts) = ⊥

-- A tree fits a term. An `nbr` keeps a value of its inner type, a `rep` or `share` one of its type, an `if` a truth
-- value, and every other node nothing.
abbrev mutual
  pub FitsTree : ℕ → Term → Tree → Type 0
  FitsTree ceiling (Plain t l) tree = HasKids NoKid tree
  FitsTree ceiling (Apply t o xs) tree = HasKids (FitTrees ceiling xs) tree
  FitsTree ceiling (Nbr t a) tree = KeepsWith (Fits ceiling (inner t)) (OneKid (FitsTree ceiling a)) tree
  FitsTree ceiling (Evolve t e a b) tree =
      KeepsWith (Fits ceiling (inner t)) (TwoKids (FitsTree ceiling a) (FitsTree ceiling b)) tree
  FitsTree ceiling (If t c a b) tree = KeepsTruth (FitsTree ceiling c) (FitsTree ceiling a) (FitsTree ceiling b) tree
  FitsTree ceiling (Let t a b) tree = HasKids (TwoKids (FitsTree ceiling a) (FitsTree ceiling b)) tree

  pub FitTrees : ℕ → Terms → Trees → Type 0
  FitTrees ceiling NoMore ts = NoKid ts
  FitTrees ceiling (More x xs) ts = OneMore (FitsTree ceiling x) (FitTrees ceiling xs) ts

-- an export of a program: the value fits the type of `main`, and the tree fits `main`
pub record IsWellTyped (U : Unfolding) (e : TreeExport) : Type 0 where
  pub value : Fits U.declared.ceiling (inner (term_type U.main)) e.value
  pub tree : FitsTree U.declared.ceiling U.main e.tree

-- what a kept truth value picks
abbrev pub by_truth : {A : Type 0} → LocalValue → A → A → A
by_truth (IntValue n) a b = a
by_truth (BoolValue true) a b = a
by_truth (BoolValue false) a b = b
by_truth (PairValue x y) a b = a

abbrev pub IfTruth : LocalValue → Type 0 → Type 0 → Type 0
IfTruth (IntValue n) P Q = P
IfTruth (BoolValue true) P Q = P
IfTruth (BoolValue false) P Q = Q
IfTruth (PairValue x y) P Q = P

-- the tree of a term whose first kept place is slot k
abbrev mutual
  pub tree_at : Term → ℕ → List SlotValue → Tree
  tree_at (Plain t l) k xs = leaf
  tree_at (Apply t o ts) k xs = Keep None (trees_at ts k xs)
  tree_at (Nbr t a) k xs = Keep (Some (slot_at k xs).1) (Then (tree_at a (suc k) xs) Done)
  tree_at (Evolve t e a b) k xs =
      Keep (Some (slot_at k xs).1) (Then (tree_at a (suc k) xs) (Then (tree_at b (suc k + kept a) xs) Done))
  tree_at (If t c a b) k xs = Keep (Some (slot_at k xs).1)
      (Then (tree_at c (suc k) xs) (Then (by_truth (slot_at k xs).1 (tree_at a (suc k + kept c) xs)
      (tree_at b (suc k + kept c + kept a) xs)) Done))
  tree_at (Let t a b) k xs = Keep None (Then (tree_at a k xs) (Then (tree_at b (k + kept a) xs) Done))

  pub trees_at : Terms → ℕ → List SlotValue → Trees
  trees_at NoMore k xs = Done
  trees_at (More t ts) k xs = Then (tree_at t k xs) (trees_at ts (k + kept t) xs)

-- none of n slots from k on is kept
pub record Clear (k n : ℕ) (xs : List SlotValue) : Type 0 where
  pub clear : (j : ℕ) → k ≤ j → j < k + n → (slot_at j xs).0 ≡ false

-- the slots of a term are kept exactly where its tree has a node: all but those of a branch that wasn't taken
abbrev mutual
  pub Marked : Term → ℕ → List SlotValue → Type 0
  Marked (Plain t l) k xs = Unit {0}
  Marked (Apply t o ts) k xs = AllMarked ts k xs
  Marked (Nbr t a) k xs = ((slot_at k xs).0 ≡ true) × Marked a (suc k) xs
  Marked (Evolve t e a b) k xs = ((slot_at k xs).0 ≡ true) × Marked a (suc k) xs × Marked b (suc k + kept a) xs
  Marked (If t c a b) k xs = ((slot_at k xs).0 ≡ true) × Marked c (suc k) xs
      × IfTruth (slot_at k xs).1
      (Marked a (suc k + kept c) xs × Clear (suc k + kept c + kept a) (kept b) xs)
      (Clear (suc k + kept c) (kept a) xs × Marked b (suc k + kept c + kept a) xs)
  Marked (Let t a b) k xs = Marked a k xs × Marked b (k + kept a) xs

  pub AllMarked : Terms → ℕ → List SlotValue → Type 0
  AllMarked NoMore k xs = Unit {0}
  AllMarked (More t ts) k xs = Marked t k xs × AllMarked ts (k + kept t) xs

-- a slot for each kept place, each with a value of the type that its place keeps
abbrev pub HaveForms : List LocalType → List SlotValue → Type 0
HaveForms [] [] = Unit {0}
HaveForms (t ∷ ts) (x ∷ xs) = (form_of x.1 ≡ t) × HaveForms ts xs
HaveForms _ _ = ⊥

-- the export that a flat export stands for, if it stands for one
abbrev pub tree_export : Unfolding → FlatExport → TreeExport
tree_export U x = record { value = x.value; tree = tree_at U.main 0 x.slots }

-- a flat export that stands for an export of a program
pub record IsExport (U : Unfolding) (x : FlatExport) : Type 0 where
  pub typed : IsWellTyped U (tree_export U x)
  pub shaped : HaveForms (kept_types U.main) x.slots
  pub marked : Marked U.main 0 x.slots
