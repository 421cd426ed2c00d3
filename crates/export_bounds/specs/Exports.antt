-- The bound of one export, and the least one that holds what either of two holds.
use Rattle.std.specs.Prelude.{ℕ, suc, Bool, true, false, ◌&&◌, Option, Some, None}
use Rattle.fc_values.specs.Values.{LocalValue}
use Rattle.fc_values.specs.Trees.{Tree, TreeExport, kept_of, child}
use Rattle.fc_nodes.specs.Terms.{Term, Terms, Plain, Apply, Nbr, Evolve, If, Let, NoMore, More}
use Rattle.fc_nodes.specs.Program.{Unfolding}
use Rattle.alignment.specs.Environments.{keeps_truth}
use Rattle.value_bounds.specs.BoundValues.{BoundValue, Unbounded, exactly, either}
use Rattle.bound_firing.specs.BoundTrees.{BoundTree, BoundTrees, Hold, NoneBelow, Below, bare, held, below}
use Rattle.bound_firing.specs.Seats.{may_be}
use Rattle.bound_firing.specs.Firing.{if_taken}
use Rattle.bound_firing.specs.Exports.{ExportBound}

-- ---- of one export

abbrev pub exactly_kept : Option LocalValue → BoundValue
exactly_kept None = Unbounded
exactly_kept (Some v) = exactly v

-- the bound of a single tree; nothing is said of a branch that it doesn't take
abbrev mutual
  pub exact_tree : Term → Tree → BoundTree
  exact_tree (Plain t l) T = bare
  exact_tree (Apply t o xs) T = Hold Unbounded (exact_trees 0 xs T)
  exact_tree (Nbr t a) T = Hold (exactly_kept (kept_of T)) (Below (exact_tree a (child 0 T)) NoneBelow)
  exact_tree (Evolve t e a b) T = Hold (exactly_kept (kept_of T))
      (Below (exact_tree a (child 0 T)) (Below (exact_tree b (child 1 T)) NoneBelow))
  exact_tree (If t c a b) T = Hold (exactly_kept (kept_of T)) (Below (exact_tree c (child 0 T))
      (Below (if_taken (keeps_truth true (kept_of T)) a (exact_tree a (child 1 T)))
      (Below (if_taken (keeps_truth false (kept_of T)) b (exact_tree b (child 1 T))) NoneBelow)))
  exact_tree (Let t a b) T =
      Hold Unbounded (Below (exact_tree a (child 0 T)) (Below (exact_tree b (child 1 T)) NoneBelow))

  pub exact_trees : ℕ → Terms → Tree → BoundTrees
  exact_trees i NoMore T = NoneBelow
  exact_trees i (More x xs) T = Below (exact_tree x (child i T)) (exact_trees (suc i) xs T)

-- the bound of a single export, which is there for sure or may be missing
abbrev pub exact_export : Unfolding → Bool → TreeExport → ExportBound
exact_export U sure e = record { value = exactly e.value; tree = exact_tree U.main e.tree; sure = sure }

-- ---- of either

-- of the trees of a branch: those of the bounds in which it may be taken
abbrev pub either_taken : Bool → Bool → BoundTree → BoundTree → BoundTree → BoundTree
either_taken true true B C E = E
either_taken true false B C E = B
either_taken false c B C E = C

abbrev mutual
  pub either_tree : Term → BoundTree → BoundTree → BoundTree
  either_tree (Plain t l) B C = bare
  either_tree (Apply t o xs) B C = Hold Unbounded (either_trees 0 xs B C)
  either_tree (Nbr t a) B C =
      Hold (either (held B) (held C)) (Below (either_tree a (below 0 B) (below 0 C)) NoneBelow)
  either_tree (Evolve t e a b) B C = Hold (either (held B) (held C))
      (Below (either_tree a (below 0 B) (below 0 C)) (Below (either_tree b (below 1 B) (below 1 C)) NoneBelow))
  either_tree (If t c a b) B C = Hold (either (held B) (held C)) (Below (either_tree c (below 0 B) (below 0 C))
      (Below (either_taken (may_be true (held B)) (may_be true (held C)) (below 1 B) (below 1 C)
      (either_tree a (below 1 B) (below 1 C)))
      (Below (either_taken (may_be false (held B)) (may_be false (held C)) (below 2 B) (below 2 C)
      (either_tree b (below 2 B) (below 2 C))) NoneBelow)))
  either_tree (Let t a b) B C = Hold Unbounded
      (Below (either_tree a (below 0 B) (below 0 C)) (Below (either_tree b (below 1 B) (below 1 C)) NoneBelow))

  pub either_trees : ℕ → Terms → BoundTree → BoundTree → BoundTrees
  either_trees i NoMore B C = NoneBelow
  either_trees i (More x xs) B C =
      Below (either_tree x (below i B) (below i C)) (either_trees (suc i) xs B C)

-- the bound of the exports of either; there for sure where they are in both
abbrev pub either_export : Unfolding → ExportBound → ExportBound → ExportBound
either_export U b c = record {
  value = either b.value c.value;
  tree = either_tree U.main b.tree c.tree;
  sure = b.sure && c.sure;
}
