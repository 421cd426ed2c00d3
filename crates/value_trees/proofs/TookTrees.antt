-- Crates above cite this module: the tree that items are read to fits its term, and keeps their values.
use Rattle.std.proofs.Common.{◌≡◌, ℕ, suc, ◌+◌, List, [], ◌∷◌, ◌++◌, refl, sym, ◌∙◌, ap, subst, Bool, true, false, Some, None, append_assoc, append-nil}
use Rattle.std.specs.Prelude.{if◌then◌else◌, ◌&&◌}
use Rattle.fc_values.specs.Types.{LocalType, BoolType}
use Rattle.fc_values.specs.Values.{LocalValue, IntValue, BoolValue, PairValue, Fits}
use Rattle.fc_values.specs.BuiltinTypes.{inner}
use Rattle.fc_values.specs.Trees.{Tree, Trees, Keep, Done, Then}
use Rattle.fc_nodes.specs.Terms.{Term, Terms, Plain, Apply, Nbr, Evolve, If, Let, NoMore, More, size}
use Rattle.fc_nodes.specs.Program.{Unfolding}
use Rattle.fc_nodes.specs.Flat.{FitsTree, FitTrees, IsWellTyped}
use Rattle.value_trees.specs.KeptLists.{kept_in, kept_in_all}
use Rattle.value_trees.specs.KeptReads.{has_type}
use Rattle.value_trees.specs.SlotFits.{truth_in}
use Rattle.value_trees.specs.Walks.{FitsMain}
use Rattle.value_trees.proofs.ReadBack.{had_type}
use Rattle.value_trees.specs.KeptItems.{KeptItem, names_place, Taken, Took, Misfit, take_then, take_value, one_kid, two_kids, take_tree, take_trees, take_main, values}

then_took : {A B R : Type 0} (t : Taken A) (f : A → List KeptItem → Taken B) (b : B) (ys : List KeptItem) → take_then t f ≡ Took b ys → ((a : A) (zs : List KeptItem) → t ≡ Took a zs → f a zs ≡ Took b ys → R) → R
then_took (Took a zs) f b ys e h = h a zs refl e
then_took (Misfit p) f b ys e h = absurd cc

pub value_took : (c : ℕ) (s : LocalType) (p : ℕ) (xs ys : List KeptItem) (v : LocalValue) → take_value c s p xs ≡ Took v ys → Fits c s v × (values xs ≡ v ∷ values ys)
value_took c s p [] ys v e = absurd cc
value_took c s p (x ∷ xs) ys v e = by_tests (names_place p x.place) (has_type c s x.value) (had_type c s x.value) e
  where
    by_tests : (m n : Bool) → (n ≡ true → Fits c s x.value) → (if m && n then Took x.value xs else Misfit p) ≡ Took v ys → Fits c s v × (values (x ∷ xs) ≡ v ∷ values ys)
    by_tests true true h e =
        let a : x.value ≡ v = cc in
        let b : xs ≡ ys = cc in
        (subst (Fits c s) a (h refl), ap (λ (w : LocalValue). w ∷ values xs) a ∙ ap (λ (zs : List KeptItem). v ∷ values zs) b)
    by_tests true false h e = absurd cc
    by_tests false n h e = absurd cc

-- a tree fits a term and keeps the values that were taken
pub record Reads (c : ℕ) (t : Term) (tree : Tree) (xs ys : List KeptItem) : Type 0 where
  pub fits : FitsTree c t tree
  pub values : values xs ≡ kept_in tree ++ values ys

pub record ReadAll (c : ℕ) (ts : Terms) (trees : Trees) (xs ys : List KeptItem) : Type 0 where
  pub fits : FitTrees c ts trees
  pub values : values xs ≡ kept_in_all trees ++ values ys

module _ (c : ℕ) where
  -- what a node with one or two kids keeps
  one_kept : (k : Tree) (zs : List LocalValue) → kept_in_all (Then k Done) ++ zs ≡ kept_in k ++ zs
  one_kept k zs = ap (λ (vs : List LocalValue). vs ++ zs) (append-nil (kept_in k))

  two_kept : (k l : Tree) (zs : List LocalValue) → kept_in_all (Then k (Then l Done)) ++ zs ≡ kept_in k ++ (kept_in l ++ zs)
  two_kept k l zs = append_assoc (kept_in k) (kept_in l ++ []) zs ∙ ap (λ (vs : List LocalValue). kept_in k ++ vs) (one_kept l zs)

  mutual
    pub took : (t : Term) (p : ℕ) (xs ys : List KeptItem) (tree : Tree) → take_tree c t p xs ≡ Took tree ys → Reads c t tree xs ys
    took (Plain t l) p xs ys tree e =
        let a : Keep None Done ≡ tree = cc in
        let b : xs ≡ ys = cc in
        subst (λ (u : Tree). Reads c (Plain t l) u xs ys) a (record { fits = tt; values = ap values b })
    took (Apply t o ts) p xs ys tree e = then_took (take_trees c ts (suc p) xs) (λ kids zs. Took (Keep None kids) zs) tree ys e (λ kids zs f g.
        let a : Keep None kids ≡ tree = cc in
        let b : zs ≡ ys = cc in
        let ih = took_all ts (suc p) xs zs kids f in
        subst (λ (u : Tree). Reads c (Apply t o ts) u xs ys) a (record { fits = ih.fits; values = ih.values ∙ ap (λ (us : List KeptItem). kept_in_all kids ++ values us) b }))
    took (Nbr t a) p xs ys tree e = then_took (take_value c (inner t) p xs) (λ v zs. take_then (take_tree c a (suc p) zs) (λ k us. Took (one_kid (Some v) k) us)) tree ys e (λ v zs f g.
        then_took (take_tree c a (suc p) zs) (λ k us. Took (one_kid (Some v) k) us) tree ys g (λ k us f' g'.
        let w = value_took c (inner t) p xs zs v f in
        let ih = took a (suc p) zs us k f' in
        let d : Keep (Some v) (Then k Done) ≡ tree = cc in
        let b : us ≡ ys = cc in
        subst (λ (u : Tree). Reads c (Nbr t a) u xs ys) d (record {
          fits = (w.0, (ih.fits, tt));
          values = w.1 ∙ ap (λ (vs : List LocalValue). v ∷ vs) (ih.values ∙ ap (λ (ws : List KeptItem). kept_in k ++ values ws) b ∙ sym (one_kept k (values ys)));
        })))
    took (Evolve t q a b) p xs ys tree e = then_took (take_value c (inner t) p xs) (λ v zs. take_then (take_tree c a (suc p) zs) (λ k us. take_then (take_tree c b (suc p + size a) us) (λ l ws. Took (two_kids (Some v) k l) ws))) tree ys e (λ v zs f g.
        then_took (take_tree c a (suc p) zs) (λ k us. take_then (take_tree c b (suc p + size a) us) (λ l ws. Took (two_kids (Some v) k l) ws)) tree ys g (λ k us f' g'.
        then_took (take_tree c b (suc p + size a) us) (λ l ws. Took (two_kids (Some v) k l) ws) tree ys g' (λ l ws f'' g''.
        let w = value_took c (inner t) p xs zs v f in
        let ih = took a (suc p) zs us k f' in
        let ih' = took b (suc p + size a) us ws l f'' in
        let d : Keep (Some v) (Then k (Then l Done)) ≡ tree = cc in
        let s : ws ≡ ys = cc in
        subst (λ (u : Tree). Reads c (Evolve t q a b) u xs ys) d (record {
          fits = (w.0, (ih.fits, (ih'.fits, tt)));
          values = w.1 ∙ ap (λ (vs : List LocalValue). v ∷ vs) (ih.values ∙ ap (λ (vs : List LocalValue). kept_in k ++ vs) (ih'.values ∙ ap (λ (rs : List KeptItem). kept_in l ++ values rs) s) ∙ sym (two_kept k l (values ys)));
        }))))
    took (If t x a b) p xs ys tree e = then_took (take_value c BoolType p xs) (λ v zs. take_then (take_tree c x (suc p) zs) (λ k us. take_then (if truth_in v then take_tree c a (suc p + size x) us else take_tree c b (suc p + size x + size a) us) (λ l ws. Took (two_kids (Some v) k l) ws))) tree ys e (λ v zs f g.
        then_took (take_tree c x (suc p) zs) (λ k us. take_then (if truth_in v then take_tree c a (suc p + size x) us else take_tree c b (suc p + size x + size a) us) (λ l ws. Took (two_kids (Some v) k l) ws)) tree ys g (λ k us f' g'.
        then_took (if truth_in v then take_tree c a (suc p + size x) us else take_tree c b (suc p + size x + size a) us) (λ l ws. Took (two_kids (Some v) k l) ws) tree ys g' (λ l ws f'' g''.
        let w = value_took c BoolType p xs zs v f in
        let ih = took x (suc p) zs us k f' in
        let d : Keep (Some v) (Then k (Then l Done)) ≡ tree = cc in
        let s : ws ≡ ys = cc in
        subst (λ (u : Tree). Reads c (If t x a b) u xs ys) d (by_value v w.0 zs w.1 k us l ws ih (λ rest. took a (suc p + size x) us ws l rest) (λ rest. took b (suc p + size x + size a) us ws l rest) f'' s))))
      where
        joined : (v : LocalValue) (zs us ws : List KeptItem) (k l : Tree) → values xs ≡ v ∷ values zs → values zs ≡ kept_in k ++ values us → values us ≡ kept_in l ++ values ws → ws ≡ ys → values xs ≡ v ∷ (kept_in_all (Then k (Then l Done)) ++ values ys)
        joined v zs us ws k l e f g s = e ∙ ap (λ (vs : List LocalValue). v ∷ vs) (f ∙ ap (λ (vs : List LocalValue). kept_in k ++ vs) (g ∙ ap (λ (rs : List KeptItem). kept_in l ++ values rs) s) ∙ sym (two_kept k l (values ys)))

        by_value : (v : LocalValue) → Fits c BoolType v → (zs : List KeptItem) → (values xs ≡ v ∷ values zs) → (k : Tree) (us : List KeptItem) (l : Tree) (ws : List KeptItem) → Reads c x k zs us
            → (take_tree c a (suc p + size x) us ≡ Took l ws → Reads c a l us ws) → (take_tree c b (suc p + size x + size a) us ≡ Took l ws → Reads c b l us ws)
            → (if truth_in v then take_tree c a (suc p + size x) us else take_tree c b (suc p + size x + size a) us) ≡ Took l ws → ws ≡ ys → Reads c (If t x a b) (Keep (Some v) (Then k (Then l Done))) xs ys
        by_value (IntValue n) h zs e k us l ws ih first second f s = absurd h
        by_value (PairValue v w) h zs e k us l ws ih first second f s = absurd h
        by_value (BoolValue true) h zs e k us l ws ih first second f s =
            let ih' = first f in
            record { fits = (ih.fits, (ih'.fits, tt)); values = joined (BoolValue true) zs us ws k l e ih.values ih'.values s }
        by_value (BoolValue false) h zs e k us l ws ih first second f s =
            let ih' = second f in
            record { fits = (ih.fits, (ih'.fits, tt)); values = joined (BoolValue false) zs us ws k l e ih.values ih'.values s }
    took (Let t a b) p xs ys tree e = then_took (take_tree c a (suc p) xs) (λ k us. take_then (take_tree c b (suc p + size a) us) (λ l ws. Took (two_kids None k l) ws)) tree ys e (λ k us f' g'.
        then_took (take_tree c b (suc p + size a) us) (λ l ws. Took (two_kids None k l) ws) tree ys g' (λ l ws f'' g''.
        let ih = took a (suc p) xs us k f' in
        let ih' = took b (suc p + size a) us ws l f'' in
        let d : Keep None (Then k (Then l Done)) ≡ tree = cc in
        let s : ws ≡ ys = cc in
        subst (λ (u : Tree). Reads c (Let t a b) u xs ys) d (record {
          fits = (ih.fits, (ih'.fits, tt));
          values = ih.values ∙ ap (λ (vs : List LocalValue). kept_in k ++ vs) (ih'.values ∙ ap (λ (rs : List KeptItem). kept_in l ++ values rs) s) ∙ sym (two_kept k l (values ys));
        })))

    took_all : (ts : Terms) (p : ℕ) (xs ys : List KeptItem) (trees : Trees) → take_trees c ts p xs ≡ Took trees ys → ReadAll c ts trees xs ys
    took_all NoMore p xs ys trees e =
        let a : Done ≡ trees = cc in
        let b : xs ≡ ys = cc in
        subst (λ (us : Trees). ReadAll c NoMore us xs ys) a (record { fits = tt; values = ap values b })
    took_all (More t ts) p xs ys trees e = then_took (take_tree c t p xs) (λ k zs. take_then (take_trees c ts (p + size t) zs) (λ ks us. Took (Then k ks) us)) trees ys e (λ k zs f g.
        then_took (take_trees c ts (p + size t) zs) (λ ks us. Took (Then k ks) us) trees ys g (λ ks us f' g'.
        let ih = took t p xs zs k f in
        let ih' = took_all ts (p + size t) zs us ks f' in
        let d : Then k ks ≡ trees = cc in
        let s : us ≡ ys = cc in
        subst (λ (vs : Trees). ReadAll c (More t ts) vs xs ys) d (record {
          fits = (ih.fits, ih'.fits);
          values = ih.values ∙ ap (λ (vs : List LocalValue). kept_in k ++ vs) (ih'.values ∙ ap (λ (rs : List KeptItem). kept_in_all ks ++ values rs) s) ∙ sym (append_assoc (kept_in k) (kept_in_all ks) (values ys));
        })))

-- ---- whole lists

-- an export with this tree is one of the program
pub whole_took : (U : Unfolding) (v : LocalValue) (xs : List KeptItem) (tree : Tree) → FitsMain U v → take_main U xs ≡ Took tree [] → IsWellTyped U (record { value = v; tree = tree }) × (kept_in tree ≡ values xs)
whole_took U v xs tree main e =
    let r = took U.declared.ceiling U.main 0 xs [] tree e in
    (record { value = main; tree = r.fits }, sym (append-nil (kept_in tree)) ∙ sym r.values)
