-- Crates above cite this module: the kept values of a tree that fits a term determine it.
use Rattle.std.proofs.Common.{◌≡◌, ℕ, List, [], ◌∷◌, ◌++◌, refl, sym, ◌∙◌, ap, true, false, Some, None, append_assoc, append-nil}
use Rattle.fc_values.specs.Values.{LocalValue, IntValue, BoolValue, PairValue}
use Rattle.fc_values.specs.Trees.{Tree, Trees, Keep, Done, Then, leaf, TreeExport}
use Rattle.fc_nodes.specs.Terms.{Term, Terms, Plain, Apply, Nbr, Evolve, If, Let, NoMore, More}
use Rattle.fc_nodes.specs.Program.{Unfolding}
use Rattle.fc_nodes.specs.Flat.{by_truth, FitsTree, FitTrees, IsWellTyped}
use Rattle.value_trees.specs.KeptLists.{kept_in, kept_in_all, kept_values}

-- a tree, or trees, out of the first values of a list, and the values that are left
abbrev with_first : List LocalValue → (LocalValue → List LocalValue → Tree × List LocalValue) → Tree × List LocalValue
with_first [] f = (leaf, [])
with_first (v ∷ vs) f = f v vs

abbrev mutual
  tree_by : Term → List LocalValue → Tree × List LocalValue
  tree_by (Plain t l) vs = (Keep None Done, vs)
  tree_by (Apply t o xs) vs = (Keep None (trees_by xs vs).0, (trees_by xs vs).1)
  tree_by (Nbr t a) vs = with_first vs (λ v us. (Keep (Some v) (Then (tree_by a us).0 Done), (tree_by a us).1))
  tree_by (Evolve t e a b) vs = with_first vs (λ v us. (Keep (Some v) (Then (tree_by a us).0 (Then (tree_by b (tree_by a us).1).0 Done)), (tree_by b (tree_by a us).1).1))
  tree_by (If t x a b) vs = with_first vs (λ v us. (Keep (Some v) (Then (tree_by x us).0 (Then (by_truth v (tree_by a (tree_by x us).1) (tree_by b (tree_by x us).1)).0 Done)), (by_truth v (tree_by a (tree_by x us).1) (tree_by b (tree_by x us).1)).1))
  tree_by (Let t a b) vs = (Keep None (Then (tree_by a vs).0 (Then (tree_by b (tree_by a vs).1).0 Done)), (tree_by b (tree_by a vs).1).1)

  trees_by : Terms → List LocalValue → Trees × List LocalValue
  trees_by NoMore vs = (Done, vs)
  trees_by (More x xs) vs = (Then (tree_by x vs).0 (trees_by xs (tree_by x vs).1).0, (trees_by xs (tree_by x vs).1).1)

module _ (c : ℕ) where
  mutual
    read_tree : (t : Term) (tree : Tree) (rest : List LocalValue) → FitsTree c t tree → tree_by t (kept_in tree ++ rest) ≡ (tree, rest)
    read_tree (Plain t l) (Keep None Done) rest h = refl
    read_tree (Plain t l) (Keep None (Then u us)) rest h = absurd h
    read_tree (Plain t l) (Keep (Some v) ts) rest h = absurd h
    read_tree (Apply t o xs) (Keep None ts) rest h = let ih = read_trees xs ts rest h in rw ih refl
    read_tree (Apply t o xs) (Keep (Some v) ts) rest h = absurd h
    read_tree (Nbr t a) (Keep None ts) rest h = absurd h
    read_tree (Nbr t a) (Keep (Some v) Done) rest h = absurd h.1
    read_tree (Nbr t a) (Keep (Some v) (Then ta (Then u us))) rest h = absurd h.1.1
    read_tree (Nbr t a) (Keep (Some v) (Then ta Done)) rest h =
        let n = append-nil (kept_in ta) in
        let ih = read_tree a ta rest h.1.0 in
        rw (n, ih) refl
    read_tree (Evolve t v a b) (Keep None ts) rest h = absurd h
    read_tree (Evolve t v a b) (Keep (Some w) Done) rest h = absurd h.1
    read_tree (Evolve t v a b) (Keep (Some w) (Then ta Done)) rest h = absurd h.1.1
    read_tree (Evolve t v a b) (Keep (Some w) (Then ta (Then tb (Then u us)))) rest h = absurd h.1.1.1
    read_tree (Evolve t v a b) (Keep (Some w) (Then ta (Then tb Done))) rest h =
        let n = append-nil (kept_in tb) in
        let s = append_assoc (kept_in ta) (kept_in tb) rest in
        let ih = read_tree a ta (kept_in tb ++ rest) h.1.0 in
        let ih' = read_tree b tb rest h.1.1.0 in
        rw (n, s, ih, ih') refl
    read_tree (If t x a b) (Keep None ts) rest h = absurd h
    read_tree (If t x a b) (Keep (Some (IntValue n)) ts) rest h = absurd h
    read_tree (If t x a b) (Keep (Some (PairValue v w)) ts) rest h = absurd h
    read_tree (If t x a b) (Keep (Some (BoolValue true)) Done) rest h = absurd h
    read_tree (If t x a b) (Keep (Some (BoolValue true)) (Then tx Done)) rest h = absurd h.1
    read_tree (If t x a b) (Keep (Some (BoolValue true)) (Then tx (Then ta (Then u us)))) rest h = absurd h.1.1
    read_tree (If t x a b) (Keep (Some (BoolValue true)) (Then tx (Then ta Done))) rest h =
        let n = append-nil (kept_in ta) in
        let s = append_assoc (kept_in tx) (kept_in ta) rest in
        let ih = read_tree x tx (kept_in ta ++ rest) h.0 in
        let ih' = read_tree a ta rest h.1.0 in
        rw (n, s, ih, ih') refl
    read_tree (If t x a b) (Keep (Some (BoolValue false)) Done) rest h = absurd h
    read_tree (If t x a b) (Keep (Some (BoolValue false)) (Then tx Done)) rest h = absurd h.1
    read_tree (If t x a b) (Keep (Some (BoolValue false)) (Then tx (Then tb (Then u us)))) rest h = absurd h.1.1
    read_tree (If t x a b) (Keep (Some (BoolValue false)) (Then tx (Then tb Done))) rest h =
        let n = append-nil (kept_in tb) in
        let s = append_assoc (kept_in tx) (kept_in tb) rest in
        let ih = read_tree x tx (kept_in tb ++ rest) h.0 in
        let ih' = read_tree b tb rest h.1.0 in
        rw (n, s, ih, ih') refl
    read_tree (Let t a b) (Keep (Some v) ts) rest h = absurd h
    read_tree (Let t a b) (Keep None Done) rest h = absurd h
    read_tree (Let t a b) (Keep None (Then ta Done)) rest h = absurd h.1
    read_tree (Let t a b) (Keep None (Then ta (Then tb (Then u us)))) rest h = absurd h.1.1
    read_tree (Let t a b) (Keep None (Then ta (Then tb Done))) rest h =
        let n = append-nil (kept_in tb) in
        let s = append_assoc (kept_in ta) (kept_in tb) rest in
        let ih = read_tree a ta (kept_in tb ++ rest) h.0 in
        let ih' = read_tree b tb rest h.1.0 in
        rw (n, s, ih, ih') refl

    read_trees : (xs : Terms) (ts : Trees) (rest : List LocalValue) → FitTrees c xs ts → trees_by xs (kept_in_all ts ++ rest) ≡ (ts, rest)
    read_trees NoMore Done rest h = refl
    read_trees NoMore (Then u us) rest h = absurd h
    read_trees (More x xs) Done rest h = absurd h
    read_trees (More x xs) (Then u us) rest h =
        let s = append_assoc (kept_in u) (kept_in_all us) rest in
        let ih = read_tree x u (kept_in_all us ++ rest) h.0 in
        let ih' = read_trees xs us rest h.1 in
        rw (s, ih, ih') refl

abbrev export_with : LocalValue → Tree → TreeExport
export_with v t = record { value = v; tree = t }

-- one export has this value and these kept values
pub one_export : (U : Unfolding) (a b : TreeExport) → IsWellTyped U a → IsWellTyped U b → a.value ≡ b.value → kept_values a ≡ kept_values b → a ≡ b
one_export U a b h h' e f =
    let r = read_tree U.declared.ceiling U.main a.tree [] h.tree in
    let r' = read_tree U.declared.ceiling U.main b.tree [] h'.tree in
    let trees : a.tree ≡ b.tree = sym (ap (λ (q : Tree × List LocalValue). q.0) r) ∙ ap (λ (vs : List LocalValue). (tree_by U.main (vs ++ [])).0) f ∙ ap (λ (q : Tree × List LocalValue). q.0) r' in
    ap (λ (v : LocalValue). export_with v a.tree) e ∙ ap (λ (t : Tree). export_with b.value t) trees
