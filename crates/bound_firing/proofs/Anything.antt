-- Crates above cite this module: each well-typed export lies in the first bound.
use Rattle.std.proofs.Common.{◌≡◌, ℕ, suc, refl, sym, subst, true, false, Some, None}
use Rattle.fc_values.specs.Types.{BoolType}
use Rattle.fc_values.specs.Values.{IntValue, BoolValue, PairValue}
use Rattle.fc_values.specs.BuiltinTypes.{inner}
use Rattle.fc_values.specs.Trees.{Tree, Trees, Keep, Done, Then, TreeExport, child}
use Rattle.fc_nodes.specs.Terms.{Term, Terms, Plain, Apply, Nbr, Evolve, If, Let, NoMore, More, term_type}
use Rattle.fc_nodes.specs.Program.{Unfolding}
use Rattle.fc_nodes.specs.Flat.{IsWellTyped, FitsTree, FitTrees, OneMore}
use Rattle.value_bounds.specs.BoundValues.{anything}
use Rattle.bound_firing.specs.BoundTrees.{BoundTree, TreeLies, TreesLie, trees_with, any_tree}
use Rattle.bound_firing.specs.Exports.{any_export, ExportLies}
use Rattle.value_bounds.proofs.Values.{lies_anything}
use Rattle.bound_firing.proofs.Firings.{kids_from, below_from, kid_is, below_is}

module _ (m : ℕ) where
  mutual
    tree_lies : (t : Term) (T : Tree) → FitsTree m t T → TreeLies t (any_tree m t) T
    tree_lies (Plain t l) T h = tt
    tree_lies (Apply t o xs) (Keep None ts) h = trees_lie xs 0 (any_tree m (Apply t o xs)) (Keep None ts) refl h
    tree_lies (Apply t o xs) (Keep (Some v) ts) h = absurd h
    tree_lies (Nbr t a) (Keep None ts) h = absurd h
    tree_lies (Nbr t a) (Keep (Some v) Done) h = absurd h.1
    tree_lies (Nbr t a) (Keep (Some v) (Then ta ts)) h = (lies_anything m (inner t) v h.0, tree_lies a ta h.1.0)
    tree_lies (Evolve t e a b) (Keep None ts) h = absurd h
    tree_lies (Evolve t e a b) (Keep (Some v) Done) h = absurd h.1
    tree_lies (Evolve t e a b) (Keep (Some v) (Then ta Done)) h = absurd h.1.1
    tree_lies (Evolve t e a b) (Keep (Some v) (Then ta (Then tb ts))) h =
        (lies_anything m (inner t) v h.0, tree_lies a ta h.1.0, tree_lies b tb h.1.1.0)
    tree_lies (If t c a b) (Keep None ts) h = absurd h
    tree_lies (If t c a b) (Keep (Some (IntValue n)) ts) h = absurd h
    tree_lies (If t c a b) (Keep (Some (PairValue v w)) ts) h = absurd h
    tree_lies (If t c a b) (Keep (Some (BoolValue true)) Done) h = absurd h
    tree_lies (If t c a b) (Keep (Some (BoolValue false)) Done) h = absurd h
    tree_lies (If t c a b) (Keep (Some (BoolValue true)) (Then tc Done)) h = absurd h.1
    tree_lies (If t c a b) (Keep (Some (BoolValue false)) (Then tc Done)) h = absurd h.1
    tree_lies (If t c a b) (Keep (Some (BoolValue true)) (Then tc (Then tk ts))) h = (
      lies_anything m BoolType (BoolValue true) tt,
      tree_lies c tc h.0,
      (λ e. tree_lies a tk h.1.0),
      (λ e. absurd cc),
    )
    tree_lies (If t c a b) (Keep (Some (BoolValue false)) (Then tc (Then tk ts))) h = (
      lies_anything m BoolType (BoolValue false) tt,
      tree_lies c tc h.0,
      (λ e. absurd cc),
      (λ e. tree_lies b tk h.1.0),
    )
    tree_lies (Let t a b) (Keep (Some v) ts) h = absurd h
    tree_lies (Let t a b) (Keep None Done) h = absurd h
    tree_lies (Let t a b) (Keep None (Then ta Done)) h = absurd h.1
    tree_lies (Let t a b) (Keep None (Then ta (Then tb ts))) h = (tree_lies a ta h.0, tree_lies b tb h.1.0)

    trees_lie : (xs : Terms) (i : ℕ) (B : BoundTree) (T : Tree) → below_from i B ≡ trees_with (anything m) xs
        → FitTrees m xs (kids_from i T) → TreesLie i xs B T
    trees_lie NoMore i B T e h = tt
    trees_lie (More x xs) i B T e h = by_kids (kids_from i T) refl h (λ t k. tree_lies x t k)
        (λ e' k. trees_lie xs (suc i) B T e' k)
      where
        by_kids : (us : Trees) → kids_from i T ≡ us → OneMore (FitsTree m x) (FitTrees m xs) us
            → ((t : Tree) → FitsTree m x t → TreeLies x (any_tree m x) t)
            → (below_from (suc i) B ≡ trees_with (anything m) xs → FitTrees m xs (kids_from (suc i) T)
            → TreesLie (suc i) xs B T) → TreesLie i (More x xs) B T
        by_kids Done q k f g = absurd k
        by_kids (Then t ts) q k f g =
            let w = below_is i B (any_tree m x) (trees_with (anything m) xs) e in
            let w' = kid_is i T t ts q in (
              subst (λ y. TreeLies x y (child i T)) (sym w.0) (subst (TreeLies x (any_tree m x)) (sym w'.0) (f t k.0)),
              g w.1 (subst (FitTrees m xs) (sym w'.1) k.1),
            )

pub lies_at_first : (U : Unfolding) (e : TreeExport) → IsWellTyped U e → ExportLies U (any_export U) e
lies_at_first U e h = record {
  value = lies_anything U.declared.ceiling (inner (term_type U.main)) e.value h.value;
  tree = tree_lies U.declared.ceiling U.main e.tree h.tree;
}
