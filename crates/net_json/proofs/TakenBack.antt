-- What a tree keeps at its places is taken back as this tree.
use Rattle.std.proofs.Common.{◌≡◌, ℕ, suc, ◌+◌, List, [], ◌∷◌, ◌++◌, map, refl, ◌∙◌, ap, true, false, Option, Some, None}
use Rattle.std.specs.Prelude.{if◌then◌else◌}
use Rattle.std.proofs.lemmas.Bool.{eq-eqb}
use Rattle.fc_values.specs.Types.{LocalType, BoolType}
use Rattle.fc_values.specs.Values.{LocalValue, IntValue, BoolValue, PairValue, Fits}
use Rattle.fc_values.specs.BuiltinTypes.{inner}
use Rattle.fc_values.specs.Trees.{Tree, Trees, Keep, Done, Then}
use Rattle.fc_nodes.specs.Terms.{Term, Terms, Plain, Apply, Nbr, Evolve, If, Let, NoMore, More, size}
use Rattle.fc_nodes.specs.Flat.{FitsTree, FitTrees}
use Rattle.fc_nodes.proofs.NarrowTypes.{Keeps, AllKeep}
use Rattle.value_trees.specs.SlotFits.{truth_in}
use Rattle.value_trees.proofs.ReadBack.{type_had}
use Rattle.value_trees.specs.KeptItems.{KeptItem, Taken, Took, take_then, take_value, one_kid, two_kids, take_tree, take_trees}
use Rattle.net_json.specs.KeptItems.{placed_item}
use Rattle.net_json.specs.TableTexts.{placed, placed_all}

-- P holds of each value at a place
abbrev pub AllAre : (LocalValue → Type 0) → List (ℕ × LocalValue) → Type 0
AllAre P [] = Unit {0}
AllAre P (x ∷ xs) = P x.1 × AllAre P xs

both_are : (P : LocalValue → Type 0) (xs ys : List (ℕ × LocalValue)) → AllAre P xs → AllAre P ys → AllAre P (xs ++ ys)
both_are P [] ys h k = k
both_are P (x ∷ xs) ys h k = (h.0, both_are P xs ys h.1 k)

-- ---- readings one after another

abbrev pub items : List (ℕ × LocalValue) → List KeptItem
items xs = map placed_item xs

-- a reading takes something off these items and no others, and P holds of their values
pub record TakesBack (P : LocalValue → Type 0) {A : Type 0} (take : List KeptItem → Taken A) (a : A) (xs : List (ℕ × LocalValue)) : Type 0 where
  pub taken : (rest : List KeptItem) → take (items xs ++ rest) ≡ Took a rest
  pub values : AllAre P xs

items_both : (xs ys : List (ℕ × LocalValue)) (rest : List KeptItem) → items (xs ++ ys) ++ rest ≡ items xs ++ (items ys ++ rest)
items_both [] ys rest = refl
items_both (x ∷ xs) ys rest = ap (λ (zs : List KeptItem). placed_item x ∷ zs) (items_both xs ys rest)

module _ (P : LocalValue → Type 0) {A B : Type 0} (take : List KeptItem → Taken A) where
  -- a reading, and then another one
  then_back : (next : A → List KeptItem → Taken B) (a : A) (b : B) (xs ys : List (ℕ × LocalValue)) → TakesBack P take a xs → TakesBack P (next a) b ys → TakesBack P (λ zs. take_then (take zs) next) b (xs ++ ys)
  then_back next a b xs ys h k = record {
    taken = λ rest. ap (λ (zs : List KeptItem). take_then (take zs) next) (items_both xs ys rest) ∙ ap (λ (t : Taken A). take_then t next) (h.taken (items ys ++ rest)) ∙ k.taken rest;
    values = both_are P xs ys h.values k.values;
  }

  -- what was taken, under a function
  made_back : (f : A → B) (a : A) (xs : List (ℕ × LocalValue)) → TakesBack P take a xs → TakesBack P (λ zs. take_then (take zs) (λ x us. Took (f x) us)) (f a) xs
  made_back f a xs h = record {
    taken = λ rest. ap (λ (t : Taken A). take_then t (λ x us. Took (f x) us)) (h.taken rest);
    values = h.values;
  }

-- ---- trees

-- Q holds of each type that the term keeps, and so P of each value
module _ (c : ℕ) (Q : LocalType → Type 0) (P : LocalValue → Type 0) (each : (s : LocalType) (v : LocalValue) → Q s → Fits c s v → P v) where
  value_back : (s : LocalType) (p : ℕ) (v : LocalValue) → Q s → Fits c s v → TakesBack P (take_value c s p) v ((p, v) ∷ [])
  value_back s p v q h =
      let e = type_had c s v h in
      let f = eq-eqb p p refl in
      record { taken = λ rest. rw (e, f) refl; values = (each s v q h, tt) }

  -- two kids of a node
  two_back : (o : Option LocalValue) (a b : Term) (p q : ℕ) (ta tb : Tree) → TakesBack P (take_tree c a p) ta (placed a p ta) → TakesBack P (take_tree c b q) tb (placed b q tb)
      → TakesBack P (λ xs. take_then (take_tree c a p xs) (λ k ys. take_then (take_tree c b q ys) (λ l zs. Took (two_kids o k l) zs))) (two_kids o ta tb) (placed a p ta ++ placed b q tb)
  two_back o a b p q ta tb h k =
      then_back P (take_tree c a p) (λ k ys. take_then (take_tree c b q ys) (λ l zs. Took (two_kids o k l) zs)) ta (two_kids o ta tb) (placed a p ta) (placed b q tb) h
      (made_back P (take_tree c b q) (λ l. two_kids o ta l) tb (placed b q tb) k)

  -- how an `if` goes on behind its truth value
  abbrev if_next : Term → Term → Term → ℕ → LocalValue → List KeptItem → Taken Tree
  if_next x a b p v ys = take_then (take_tree c x (suc p) ys) (λ k zs.
      take_then (if truth_in v then take_tree c a (suc p + size x) zs else take_tree c b (suc p + size x + size a) zs) (λ l us. Took (two_kids (Some v) k l) us))

  mutual
    pub tree_back : (t : Term) (p : ℕ) (tree : Tree) → Keeps Q t → FitsTree c t tree → TakesBack P (take_tree c t p) tree (placed t p tree)
    tree_back (Plain t l) p (Keep None Done) k h = record { taken = λ rest. refl; values = tt }
    tree_back (Plain t l) p (Keep None (Then u us)) k h = absurd h
    tree_back (Plain t l) p (Keep (Some v) ts) k h = absurd h
    tree_back (Apply t o xs) p (Keep None ts) k h = made_back P (take_trees c xs (suc p)) (λ kids. Keep None kids) ts (placed_all xs (suc p) ts) (trees_back xs (suc p) ts k h)
    tree_back (Apply t o xs) p (Keep (Some v) ts) k h = absurd h
    tree_back (Nbr t a) p (Keep None ts) k h = absurd h
    tree_back (Nbr t a) p (Keep (Some v) Done) k h = absurd h.1
    tree_back (Nbr t a) p (Keep (Some v) (Then ta (Then u us))) k h = absurd h.1.1
    tree_back (Nbr t a) p (Keep (Some v) (Then ta Done)) k h =
        then_back P (take_value c (inner t) p) (λ v ys. take_then (take_tree c a (suc p) ys) (λ k zs. Took (one_kid (Some v) k) zs)) v (one_kid (Some v) ta) ((p, v) ∷ []) (placed a (suc p) ta)
        (value_back (inner t) p v k.0 h.0)
        (made_back P (take_tree c a (suc p)) (λ l. one_kid (Some v) l) ta (placed a (suc p) ta) (tree_back a (suc p) ta k.1 h.1.0))
    tree_back (Evolve t e a b) p (Keep None ts) k h = absurd h
    tree_back (Evolve t e a b) p (Keep (Some v) Done) k h = absurd h.1
    tree_back (Evolve t e a b) p (Keep (Some v) (Then ta Done)) k h = absurd h.1.1
    tree_back (Evolve t e a b) p (Keep (Some v) (Then ta (Then tb (Then u us)))) k h = absurd h.1.1.1
    tree_back (Evolve t e a b) p (Keep (Some v) (Then ta (Then tb Done))) k h =
        then_back P (take_value c (inner t) p) (λ v ys. take_then (take_tree c a (suc p) ys) (λ k zs. take_then (take_tree c b (suc p + size a) zs) (λ l us. Took (two_kids (Some v) k l) us))) v (two_kids (Some v) ta tb) ((p, v) ∷ []) (placed a (suc p) ta ++ placed b (suc p + size a) tb)
        (value_back (inner t) p v k.0 h.0)
        (two_back (Some v) a b (suc p) (suc p + size a) ta tb (tree_back a (suc p) ta k.1 h.1.0) (tree_back b (suc p + size a) tb k.2 h.1.1.0))
    tree_back (If t x a b) p (Keep None ts) k h = absurd h
    tree_back (If t x a b) p (Keep (Some (IntValue n)) ts) k h = absurd h
    tree_back (If t x a b) p (Keep (Some (PairValue v w)) ts) k h = absurd h
    tree_back (If t x a b) p (Keep (Some (BoolValue true)) Done) k h = absurd h
    tree_back (If t x a b) p (Keep (Some (BoolValue true)) (Then tx Done)) k h = absurd h.1
    tree_back (If t x a b) p (Keep (Some (BoolValue true)) (Then tx (Then ta (Then u us)))) k h = absurd h.1.1
    tree_back (If t x a b) p (Keep (Some (BoolValue true)) (Then tx (Then ta Done))) k h =
        then_back P (take_value c BoolType p) (if_next x a b p) (BoolValue true) (two_kids (Some (BoolValue true)) tx ta) ((p, BoolValue true) ∷ []) (placed x (suc p) tx ++ placed a (suc p + size x) ta)
        (value_back BoolType p (BoolValue true) k.0 tt)
        (two_back (Some (BoolValue true)) x a (suc p) (suc p + size x) tx ta (tree_back x (suc p) tx k.1 h.0) (tree_back a (suc p + size x) ta k.2 h.1.0))
    tree_back (If t x a b) p (Keep (Some (BoolValue false)) Done) k h = absurd h
    tree_back (If t x a b) p (Keep (Some (BoolValue false)) (Then tx Done)) k h = absurd h.1
    tree_back (If t x a b) p (Keep (Some (BoolValue false)) (Then tx (Then tb (Then u us)))) k h = absurd h.1.1
    tree_back (If t x a b) p (Keep (Some (BoolValue false)) (Then tx (Then tb Done))) k h =
        then_back P (take_value c BoolType p) (if_next x a b p) (BoolValue false) (two_kids (Some (BoolValue false)) tx tb) ((p, BoolValue false) ∷ []) (placed x (suc p) tx ++ placed b (suc p + size x + size a) tb)
        (value_back BoolType p (BoolValue false) k.0 tt)
        (two_back (Some (BoolValue false)) x b (suc p) (suc p + size x + size a) tx tb (tree_back x (suc p) tx k.1 h.0) (tree_back b (suc p + size x + size a) tb k.3 h.1.0))
    tree_back (Let t a b) p (Keep (Some v) ts) k h = absurd h
    tree_back (Let t a b) p (Keep None Done) k h = absurd h
    tree_back (Let t a b) p (Keep None (Then ta Done)) k h = absurd h.1
    tree_back (Let t a b) p (Keep None (Then ta (Then tb (Then u us)))) k h = absurd h.1.1
    tree_back (Let t a b) p (Keep None (Then ta (Then tb Done))) k h =
        two_back None a b (suc p) (suc p + size a) ta tb (tree_back a (suc p) ta k.0 h.0) (tree_back b (suc p + size a) tb k.1 h.1.0)

    trees_back : (xs : Terms) (p : ℕ) (ts : Trees) → AllKeep Q xs → FitTrees c xs ts → TakesBack P (take_trees c xs p) ts (placed_all xs p ts)
    trees_back NoMore p Done k h = record { taken = λ rest. refl; values = tt }
    trees_back NoMore p (Then u us) k h = absurd h
    trees_back (More x xs) p Done k h = absurd h
    trees_back (More x xs) p (Then u us) k h =
        then_back P (take_tree c x p) (λ l ys. take_then (take_trees c xs (p + size x) ys) (λ ks zs. Took (Then l ks) zs)) u (Then u us) (placed x p u) (placed_all xs (p + size x) us)
        (tree_back x p u k.0 h.0)
        (made_back P (take_trees c xs (p + size x)) (λ ks. Then u ks) us (placed_all xs (p + size x) us) (trees_back xs (p + size x) us k.1 h.1))
