-- An export lies in its bound, and in that of either where it lies in one.
use Rattle.std.proofs.Common.{◌≡◌, ℕ, suc, refl, sym, subst, Bool, true, false, Option, Some, None}
use Rattle.fc_values.specs.Values.{LocalValue, IntValue, BoolValue, PairValue}
use Rattle.fc_values.specs.Trees.{Tree, Trees, Keep, Done, Then, TreeExport, kept_of, child}
use Rattle.fc_nodes.specs.Terms.{Term, Terms, Plain, Apply, Nbr, Evolve, If, Let, NoMore, More}
use Rattle.fc_nodes.specs.Program.{Unfolding}
use Rattle.fc_nodes.specs.Flat.{IsWellTyped, FitsTree, FitTrees, OneMore}
use Rattle.value_bounds.specs.BoundValues.{either}
use Rattle.value_bounds.proofs.Values.{lies_exactly, either_left, either_right}
use Rattle.bound_firing.specs.BoundTrees.{BoundTree, held, below, KeptLies, TreeLies, TreesLie}
use Rattle.bound_firing.specs.Seats.{may_be}
use Rattle.bound_firing.specs.Exports.{ExportBound, ExportLies}
use Rattle.bound_firing.proofs.Branch.{may_hold}
use Rattle.bound_firing.proofs.Firings.{kids_from, below_from, kid_is, below_is}
use Rattle.export_bounds.specs.Exports.{exact_tree, exact_trees, either_taken, either_tree, either_trees}
use Rattle.export_bounds.specs.Exports.{exact_export, either_export}
use Rattle.export_bounds.specs.Laws.{ExportsHold}
use Rattle.export_bounds.proofs.Decided.{export_decided}

-- ---- the tree of one export

module _ (m : ℕ) where
  mutual
    exact_lies : (t : Term) (T : Tree) → FitsTree m t T → TreeLies t (exact_tree t T) T
    exact_lies (Plain t l) T h = tt
    exact_lies (Apply t o xs) (Keep None ts) h =
        exact_lie xs 0 (exact_tree (Apply t o xs) (Keep None ts)) (Keep None ts) refl h
    exact_lies (Apply t o xs) (Keep (Some v) ts) h = absurd h
    exact_lies (Nbr t a) (Keep None ts) h = absurd h
    exact_lies (Nbr t a) (Keep (Some v) Done) h = absurd h.1
    exact_lies (Nbr t a) (Keep (Some v) (Then ta ts)) h = (lies_exactly v, exact_lies a ta h.1.0)
    exact_lies (Evolve t e a b) (Keep None ts) h = absurd h
    exact_lies (Evolve t e a b) (Keep (Some v) Done) h = absurd h.1
    exact_lies (Evolve t e a b) (Keep (Some v) (Then ta Done)) h = absurd h.1.1
    exact_lies (Evolve t e a b) (Keep (Some v) (Then ta (Then tb ts))) h =
        (lies_exactly v, exact_lies a ta h.1.0, exact_lies b tb h.1.1.0)
    exact_lies (If t c a b) (Keep None ts) h = absurd h
    exact_lies (If t c a b) (Keep (Some (IntValue n)) ts) h = absurd h
    exact_lies (If t c a b) (Keep (Some (PairValue v w)) ts) h = absurd h
    exact_lies (If t c a b) (Keep (Some (BoolValue true)) Done) h = absurd h
    exact_lies (If t c a b) (Keep (Some (BoolValue false)) Done) h = absurd h
    exact_lies (If t c a b) (Keep (Some (BoolValue true)) (Then tc Done)) h = absurd h.1
    exact_lies (If t c a b) (Keep (Some (BoolValue false)) (Then tc Done)) h = absurd h.1
    exact_lies (If t c a b) (Keep (Some (BoolValue true)) (Then tc (Then tk ts))) h = (
      lies_exactly (BoolValue true),
      exact_lies c tc h.0,
      (λ e. exact_lies a tk h.1.0),
      (λ e. absurd cc),
    )
    exact_lies (If t c a b) (Keep (Some (BoolValue false)) (Then tc (Then tk ts))) h = (
      lies_exactly (BoolValue false),
      exact_lies c tc h.0,
      (λ e. absurd cc),
      (λ e. exact_lies b tk h.1.0),
    )
    exact_lies (Let t a b) (Keep (Some v) ts) h = absurd h
    exact_lies (Let t a b) (Keep None Done) h = absurd h
    exact_lies (Let t a b) (Keep None (Then ta Done)) h = absurd h.1
    exact_lies (Let t a b) (Keep None (Then ta (Then tb ts))) h = (exact_lies a ta h.0, exact_lies b tb h.1.0)

    exact_lie : (xs : Terms) (i : ℕ) (B : BoundTree) (T : Tree) → below_from i B ≡ exact_trees i xs T
        → FitTrees m xs (kids_from i T) → TreesLie i xs B T
    exact_lie NoMore i B T e h = tt
    exact_lie (More x xs) i B T e h = by_kids (kids_from i T) refl h (λ k. exact_lies x (child i T) k)
        (λ e' k. exact_lie xs (suc i) B T e' k)
      where
        by_kids : (us : Trees) → kids_from i T ≡ us → OneMore (FitsTree m x) (FitTrees m xs) us
            → (FitsTree m x (child i T) → TreeLies x (exact_tree x (child i T)) (child i T))
            → (below_from (suc i) B ≡ exact_trees (suc i) xs T → FitTrees m xs (kids_from (suc i) T)
            → TreesLie (suc i) xs B T) → TreesLie i (More x xs) B T
        by_kids Done q k f g = absurd k
        by_kids (Then t ts) q k f g =
            let w = below_is i B (exact_tree x (child i T)) (exact_trees (suc i) xs T) e in
            let w' = kid_is i T t ts q in (
              subst (λ y. TreeLies x y (child i T)) (sym w.0) (f (subst (FitsTree m x) (sym w'.0) k.0)),
              g w.1 (subst (FitTrees m xs) (sym w'.1) k.1),
            )

pub exact_holds : (U : Unfolding) (sure : Bool) (e : TreeExport) → IsWellTyped U e
    → ExportLies U (exact_export U sure e) e
exact_holds U sure e h =
    record { value = lies_exactly e.value; tree = exact_lies U.declared.ceiling U.main e.tree h.tree }

-- ---- either of two trees

kept_left : (b c : BoundTree) (o : Option LocalValue) → KeptLies (held b) o → KeptLies (either (held b) (held c)) o
kept_left b c None h = absurd h
kept_left b c (Some v) h = either_left (held b) (held c) v h

kept_right : (b c : BoundTree) (o : Option LocalValue) → KeptLies (held c) o → KeptLies (either (held b) (held c)) o
kept_right b c None h = absurd h
kept_right b c (Some v) h = either_right (held b) (held c) v h

may_keep : (t : Bool) (B : BoundTree) (T : Tree) → KeptLies (held B) (kept_of T) → kept_of T ≡ Some (BoolValue t)
    → may_be t (held B) ≡ true
may_keep t B T h e = may_hold t (held B) (subst (KeptLies (held B)) e h)

taken_left : (Q : BoundTree → Type 0) (b c : Bool) (B C E : BoundTree) → b ≡ true → Q B → Q E
    → Q (either_taken b c B C E)
taken_left Q true true B C E h p q = q
taken_left Q true false B C E h p q = p
taken_left Q false c B C E h p q = absurd cc

taken_right : (Q : BoundTree → Type 0) (b c : Bool) (B C E : BoundTree) → c ≡ true → Q C → Q E
    → Q (either_taken b c B C E)
taken_right Q true true B C E h p q = q
taken_right Q true false B C E h p q = absurd cc
taken_right Q false c B C E h p q = p

mutual
  tree_left : (t : Term) (B C : BoundTree) (T : Tree) → TreeLies t B T → TreeLies t (either_tree t B C) T
  tree_left (Plain t l) B C T h = tt
  tree_left (Apply t o xs) B C T h = trees_left xs 0 B C (either_tree (Apply t o xs) B C) T refl h
  tree_left (Nbr t a) B C T h = (kept_left B C (kept_of T) h.0, tree_left a (below 0 B) (below 0 C) (child 0 T) h.1)
  tree_left (Evolve t e a b) B C T h = (
    kept_left B C (kept_of T) h.0,
    tree_left a (below 0 B) (below 0 C) (child 0 T) h.1,
    tree_left b (below 1 B) (below 1 C) (child 1 T) h.2,
  )
  tree_left (If t c a b) B C T h = (
    kept_left B C (kept_of T) h.0,
    tree_left c (below 0 B) (below 0 C) (child 0 T) h.1,
    (λ e. taken_left (λ X. TreeLies a X (child 1 T)) (may_be true (held B)) (may_be true (held C)) (below 1 B)
        (below 1 C) (either_tree a (below 1 B) (below 1 C)) (may_keep true B T h.0 e) (h.2 e)
        (tree_left a (below 1 B) (below 1 C) (child 1 T) (h.2 e))),
    (λ e. taken_left (λ X. TreeLies b X (child 1 T)) (may_be false (held B)) (may_be false (held C)) (below 2 B)
        (below 2 C) (either_tree b (below 2 B) (below 2 C)) (may_keep false B T h.0 e) (h.3 e)
        (tree_left b (below 2 B) (below 2 C) (child 1 T) (h.3 e))),
  )
  tree_left (Let t a b) B C T h =
      (tree_left a (below 0 B) (below 0 C) (child 0 T) h.0, tree_left b (below 1 B) (below 1 C) (child 1 T) h.1)

  trees_left : (xs : Terms) (i : ℕ) (B C D : BoundTree) (T : Tree) → below_from i D ≡ either_trees i xs B C
      → TreesLie i xs B T → TreesLie i xs D T
  trees_left NoMore i B C D T e h = tt
  trees_left (More x xs) i B C D T e h =
      let w = below_is i D (either_tree x (below i B) (below i C)) (either_trees (suc i) xs B C) e in (
        subst (λ y. TreeLies x y (child i T)) (sym w.0) (tree_left x (below i B) (below i C) (child i T) h.0),
        trees_left xs (suc i) B C D T w.1 h.1,
      )

mutual
  tree_right : (t : Term) (B C : BoundTree) (T : Tree) → TreeLies t C T → TreeLies t (either_tree t B C) T
  tree_right (Plain t l) B C T h = tt
  tree_right (Apply t o xs) B C T h = trees_right xs 0 B C (either_tree (Apply t o xs) B C) T refl h
  tree_right (Nbr t a) B C T h =
      (kept_right B C (kept_of T) h.0, tree_right a (below 0 B) (below 0 C) (child 0 T) h.1)
  tree_right (Evolve t e a b) B C T h = (
    kept_right B C (kept_of T) h.0,
    tree_right a (below 0 B) (below 0 C) (child 0 T) h.1,
    tree_right b (below 1 B) (below 1 C) (child 1 T) h.2,
  )
  tree_right (If t c a b) B C T h = (
    kept_right B C (kept_of T) h.0,
    tree_right c (below 0 B) (below 0 C) (child 0 T) h.1,
    (λ e. taken_right (λ X. TreeLies a X (child 1 T)) (may_be true (held B)) (may_be true (held C)) (below 1 B)
        (below 1 C) (either_tree a (below 1 B) (below 1 C)) (may_keep true C T h.0 e) (h.2 e)
        (tree_right a (below 1 B) (below 1 C) (child 1 T) (h.2 e))),
    (λ e. taken_right (λ X. TreeLies b X (child 1 T)) (may_be false (held B)) (may_be false (held C)) (below 2 B)
        (below 2 C) (either_tree b (below 2 B) (below 2 C)) (may_keep false C T h.0 e) (h.3 e)
        (tree_right b (below 2 B) (below 2 C) (child 1 T) (h.3 e))),
  )
  tree_right (Let t a b) B C T h =
      (tree_right a (below 0 B) (below 0 C) (child 0 T) h.0, tree_right b (below 1 B) (below 1 C) (child 1 T) h.1)

  trees_right : (xs : Terms) (i : ℕ) (B C D : BoundTree) (T : Tree) → below_from i D ≡ either_trees i xs B C
      → TreesLie i xs C T → TreesLie i xs D T
  trees_right NoMore i B C D T e h = tt
  trees_right (More x xs) i B C D T e h =
      let w = below_is i D (either_tree x (below i B) (below i C)) (either_trees (suc i) xs B C) e in (
        subst (λ y. TreeLies x y (child i T)) (sym w.0) (tree_right x (below i B) (below i C) (child i T) h.0),
        trees_right xs (suc i) B C D T w.1 h.1,
      )

module _ (U : Unfolding) (b c : ExportBound) (e : TreeExport) where
  pub export_left : ExportLies U b e → ExportLies U (either_export U b c) e
  export_left h = record {
    value = either_left b.value c.value e.value h.value;
    tree = tree_left U.main b.tree c.tree e.tree h.tree;
  }

  pub export_right : ExportLies U c e → ExportLies U (either_export U b c) e
  export_right h = record {
    value = either_right b.value c.value e.value h.value;
    tree = tree_right U.main b.tree c.tree e.tree h.tree;
  }

pub exports_hold : ExportsHold
exports_hold U = record {
  exact = exact_holds U;
  first = λ b c e h. export_left U b c e h;
  second = λ b c e h. export_right U b c e h;
  decided = export_decided;
}
