-- Items that name no place are read as their values alone are.
use Rattle.std.proofs.Common.{◌≡◌, ℕ, suc, ◌+◌, List, [], ◌∷◌, map, refl, ◌∙◌, ap, Bool, true, false, Some, None}
use Rattle.std.specs.Prelude.{if◌then◌else◌}
use Rattle.fc_values.specs.Types.{LocalType, BoolType}
use Rattle.fc_values.specs.Values.{LocalValue, IntValue, BoolValue, PairValue}
use Rattle.fc_values.specs.BuiltinTypes.{inner}
use Rattle.fc_values.specs.Trees.{Tree, Keep, Then}
use Rattle.fc_nodes.specs.Terms.{Term, Terms, Plain, Apply, Nbr, Evolve, If, Let, NoMore, More, size}
use Rattle.fc_nodes.specs.Program.{Unfolding}
use Rattle.fc_nodes.specs.Flat.{by_truth}
use Rattle.value_trees.specs.KeptReads.{Left, Rest, Off, and_left, has_type, own_left, left_by, left_by_all, surplus, misfit_of}
use Rattle.value_trees.specs.SlotFits.{truth_in}
use Rattle.value_trees.specs.KeptItems.{KeptItem, plain_item, Taken, Took, Misfit, take_then, take_value, one_kid, two_kids, take_tree, take_trees, take_main, misfit_by, misfit_among, values}
use Rattle.value_trees.specs.Leavings.{Leaving, Leaves, Misses, leaving}
use Rattle.value_trees.proofs.Takes.{renamed}

abbrev as_leaving : Left → Leaving
as_leaving (Rest vs) = Leaves (map plain_item vs)
as_leaving (Off p) = Misses p

module _ {A B : Type 0} where
  then_left : (l : Left) (t : Taken A) (f : List LocalValue → Left) (g : A → List KeptItem → Taken B) → leaving t ≡ as_leaving l → ((a : A) (us : List LocalValue) → leaving (g a (map plain_item us)) ≡ as_leaving (f us))
      → leaving (take_then t g) ≡ as_leaving (and_left l f)
  then_left (Rest us) (Took a xs) f g e h = let s : xs ≡ map plain_item us = cc in ap (λ (ys : List KeptItem). leaving (g a ys)) s ∙ h a us
  then_left (Rest us) (Misfit p) f g e h = absurd cc
  then_left (Off q) (Took a xs) f g e h = absurd cc
  then_left (Off q) (Misfit p) f g e h = e

value_left : {B : Type 0} (c : ℕ) (s : LocalType) (p : ℕ) (vs : List LocalValue) (f : LocalValue → List LocalValue → Left) (g : LocalValue → List KeptItem → Taken B) → ((v : LocalValue) (us : List LocalValue) → has_type c s v ≡ true → leaving (g v (map plain_item us)) ≡ as_leaving (f v us))
    → leaving (take_then (take_value c s p (map plain_item vs)) g) ≡ as_leaving (own_left c s p vs f)
value_left c s p [] f g h = refl
value_left {B = B} c s p (v ∷ vs) f g h = by_test (has_type c s v) (h v vs)
  where
    by_test : (q : Bool) → (q ≡ true → leaving (g v (map plain_item vs)) ≡ as_leaving (f v vs)) → leaving (take_then (if q then Took v (map plain_item vs) else Misfit p) g) ≡ as_leaving (if q then f v vs else Off p)
    by_test true h = h refl
    by_test false h = refl

module _ (c : ℕ) where
  mutual
    tree_left : (t : Term) (p : ℕ) (vs : List LocalValue) → leaving (take_tree c t p (map plain_item vs)) ≡ as_leaving (left_by c p t vs)
    tree_left (Plain t l) p vs = refl
    tree_left (Apply t o ts) p vs = renamed (take_trees c ts (suc p) (map plain_item vs)) (λ kids. Keep None kids) ∙ trees_left ts (suc p) vs
    tree_left (Nbr t a) p vs =
        value_left c (inner t) p vs (λ v us. left_by c (suc p) a us) (λ v ys. take_then (take_tree c a (suc p) ys) (λ k zs. Took (one_kid (Some v) k) zs))
        (λ v us e. renamed (take_tree c a (suc p) (map plain_item us)) (λ k. one_kid (Some v) k) ∙ tree_left a (suc p) us)
    tree_left (Evolve t q a b) p vs =
        value_left c (inner t) p vs (λ v us. and_left (left_by c (suc p) a us) (λ ws. left_by c (suc p + size a) b ws)) (λ v ys. take_then (take_tree c a (suc p) ys) (λ k zs. take_then (take_tree c b (suc p + size a) zs) (λ l us. Took (two_kids (Some v) k l) us)))
        (λ v us e. then_left (left_by c (suc p) a us) (take_tree c a (suc p) (map plain_item us)) (λ ws. left_by c (suc p + size a) b ws) (λ k zs. take_then (take_tree c b (suc p + size a) zs) (λ l us. Took (two_kids (Some v) k l) us)) (tree_left a (suc p) us)
        (λ k ws. renamed (take_tree c b (suc p + size a) (map plain_item ws)) (λ l. two_kids (Some v) k l) ∙ tree_left b (suc p + size a) ws))
    tree_left (If t x a b) p vs =
        value_left c BoolType p vs (λ v us. and_left (left_by c (suc p) x us) (λ ws. by_truth v (left_by c (suc p + size x) a ws) (left_by c (suc p + size x + size a) b ws)))
        (λ v ys. take_then (take_tree c x (suc p) ys) (λ k zs. take_then (if truth_in v then take_tree c a (suc p + size x) zs else take_tree c b (suc p + size x + size a) zs) (λ l us. Took (two_kids (Some v) k l) us)))
        (λ v us e. then_left (left_by c (suc p) x us) (take_tree c x (suc p) (map plain_item us)) (λ ws. by_truth v (left_by c (suc p + size x) a ws) (left_by c (suc p + size x + size a) b ws)) (λ k zs. take_then (if truth_in v then take_tree c a (suc p + size x) zs else take_tree c b (suc p + size x + size a) zs) (λ l us. Took (two_kids (Some v) k l) us)) (tree_left x (suc p) us)
        (λ k ws. renamed (if truth_in v then take_tree c a (suc p + size x) (map plain_item ws) else take_tree c b (suc p + size x + size a) (map plain_item ws)) (λ l. two_kids (Some v) k l)
        ∙ branch v e ws (tree_left a (suc p + size x) ws) (tree_left b (suc p + size x + size a) ws)))
      where
        branch : (v : LocalValue) → has_type c BoolType v ≡ true → (ws : List LocalValue) → leaving (take_tree c a (suc p + size x) (map plain_item ws)) ≡ as_leaving (left_by c (suc p + size x) a ws) → leaving (take_tree c b (suc p + size x + size a) (map plain_item ws)) ≡ as_leaving (left_by c (suc p + size x + size a) b ws)
            → leaving (if truth_in v then take_tree c a (suc p + size x) (map plain_item ws) else take_tree c b (suc p + size x + size a) (map plain_item ws)) ≡ as_leaving (by_truth v (left_by c (suc p + size x) a ws) (left_by c (suc p + size x + size a) b ws))
        branch (IntValue n) e ws f g = absurd cc
        branch (BoolValue true) e ws f g = f
        branch (BoolValue false) e ws f g = g
        branch (PairValue u w) e ws f g = absurd cc
    tree_left (Let t a b) p vs =
        then_left (left_by c (suc p) a vs) (take_tree c a (suc p) (map plain_item vs)) (λ ws. left_by c (suc p + size a) b ws) (λ k zs. take_then (take_tree c b (suc p + size a) zs) (λ l us. Took (two_kids None k l) us)) (tree_left a (suc p) vs)
        (λ k ws. renamed (take_tree c b (suc p + size a) (map plain_item ws)) (λ l. two_kids None k l) ∙ tree_left b (suc p + size a) ws)

    trees_left : (ts : Terms) (p : ℕ) (vs : List LocalValue) → leaving (take_trees c ts p (map plain_item vs)) ≡ as_leaving (left_by_all c p ts vs)
    trees_left NoMore p vs = refl
    trees_left (More t ts) p vs =
        then_left (left_by c p t vs) (take_tree c t p (map plain_item vs)) (λ us. left_by_all c (p + size t) ts us) (λ k ys. take_then (take_trees c ts (p + size t) ys) (λ ks zs. Took (Then k ks) zs)) (tree_left t p vs)
        (λ k us. renamed (take_trees c ts (p + size t) (map plain_item us)) (λ ks. Then k ks) ∙ trees_left ts (p + size t) us)

pub plain_misfit : (U : Unfolding) (vs : List LocalValue) → misfit_among U (map plain_item vs) ≡ misfit_of U vs
plain_misfit U vs = by_left (take_main U (map plain_item vs)) (left_by U.declared.ceiling 0 U.main vs) (tree_left U.declared.ceiling U.main 0 vs)
  where
    by_left : (t : Taken Tree) (l : Left) → leaving t ≡ as_leaving l → misfit_by (size U.main) t ≡ surplus (size U.main) l
    by_left (Took tree []) (Rest []) e = refl
    by_left (Took tree []) (Rest (v ∷ us)) e = absurd cc
    by_left (Took tree (x ∷ xs)) (Rest []) e = absurd cc
    by_left (Took tree (x ∷ xs)) (Rest (v ∷ us)) e = refl
    by_left (Took tree xs) (Off p) e = absurd cc
    by_left (Misfit q) (Rest us) e = absurd cc
    by_left (Misfit q) (Off p) e = let n : q ≡ p = cc in ap (λ (k : ℕ). Some k) n

-- the values of items that name no place
pub plain_values : (vs : List LocalValue) → values (map plain_item vs) ≡ vs
plain_values [] = refl
plain_values (v ∷ vs) = ap (λ (us : List LocalValue). v ∷ us) (plain_values vs)
