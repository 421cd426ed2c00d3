-- Crates above cite this module: the kept values of a tree that fits are read along its term with nothing left.
use Rattle.std.proofs.Common.{◌≡◌, ℕ, suc, ◌+◌, List, [], ◌++◌, refl, sym, ◌∙◌, ap, Bool, true, false, ◌&&◌, Some, None, arith, append_assoc, append-nil}
use Rattle.std.proofs.lemmas.Bool.Decides.{nat_tests}
use Rattle.fc_values.specs.Types.{LocalType, IntType, BoolType, PairType}
use Rattle.fc_values.specs.Values.{LocalValue, IntValue, BoolValue, PairValue, Fits}
use Rattle.fc_values.specs.BuiltinTypes.{inner}
use Rattle.fc_values.specs.Trees.{Tree, Trees, Keep, Done, Then}
use Rattle.fc_nodes.specs.Terms.{Term, Terms, Plain, Apply, Nbr, Evolve, If, Let, NoMore, More, size}
use Rattle.fc_nodes.specs.Program.{Unfolding}
use Rattle.fc_nodes.specs.Flat.{FitsTree, FitTrees}
use Rattle.value_trees.specs.KeptLists.{kept_in, kept_in_all}
use Rattle.value_trees.specs.KeptReads.{Rest, has_type, left_by, left_by_all, KeptListsFit}

pub type_had : (c : ℕ) (s : LocalType) (v : LocalValue) → Fits c s v → has_type c s v ≡ true
type_had c IntType (IntValue n) h = grind (arith, nat_tests)
type_had c BoolType (BoolValue b) h = refl
type_had c (PairType s t) (PairValue a b) h = let e = type_had c s a h.0 in let f = type_had c t b h.1 in rw (e, f) refl
type_had c s v h = absurd h

pub had_type : (c : ℕ) (s : LocalType) (v : LocalValue) → has_type c s v ≡ true → Fits c s v
had_type c IntType (IntValue n) h = grind (arith, nat_tests)
had_type c BoolType (BoolValue b) h = tt
had_type c (PairType s t) (PairValue a b) h = both (has_type c s a) (has_type c t b) h (had_type c s a) (had_type c t b)
  where
    both : (p q : Bool) → (p && q) ≡ true → (p ≡ true → Fits c s a) → (q ≡ true → Fits c t b) → Fits c s a × Fits c t b
    both true q h f g = (f refl, g h)
    both false q h f g = absurd cc
had_type c s v h = absurd cc

module _ (c : ℕ) where
  mutual
    read_back : (t : Term) (p : ℕ) (tree : Tree) (rest : List LocalValue) → FitsTree c t tree → left_by c p t (kept_in tree ++ rest) ≡ Rest rest
    read_back (Plain t l) p (Keep None Done) rest h = refl
    read_back (Plain t l) p (Keep None (Then u us)) rest h = absurd h
    read_back (Plain t l) p (Keep (Some v) ts) rest h = absurd h
    read_back (Apply t o xs) p (Keep None ts) rest h = read_all_back xs (suc p) ts rest h
    read_back (Apply t o xs) p (Keep (Some v) ts) rest h = absurd h
    read_back (Nbr t a) p (Keep None ts) rest h = absurd h
    read_back (Nbr t a) p (Keep (Some v) Done) rest h = absurd h.1
    read_back (Nbr t a) p (Keep (Some v) (Then ta (Then u us))) rest h = absurd h.1.1
    read_back (Nbr t a) p (Keep (Some v) (Then ta Done)) rest h =
        let e = type_had c (inner t) v h.0 in
        let n = append-nil (kept_in ta) in
        let ih = read_back a (suc p) ta rest h.1.0 in
        rw (e, n, ih) refl
    read_back (Evolve t v a b) p (Keep None ts) rest h = absurd h
    read_back (Evolve t v a b) p (Keep (Some w) Done) rest h = absurd h.1
    read_back (Evolve t v a b) p (Keep (Some w) (Then ta Done)) rest h = absurd h.1.1
    read_back (Evolve t v a b) p (Keep (Some w) (Then ta (Then tb (Then u us)))) rest h = absurd h.1.1.1
    read_back (Evolve t v a b) p (Keep (Some w) (Then ta (Then tb Done))) rest h =
        let e = type_had c (inner t) w h.0 in
        let n = append-nil (kept_in tb) in
        let s = append_assoc (kept_in ta) (kept_in tb) rest in
        let ih = read_back a (suc p) ta (kept_in tb ++ rest) h.1.0 in
        let ih' = read_back b (suc p + size a) tb rest h.1.1.0 in
        rw (e, n, s, ih, ih') refl
    read_back (If t x a b) p (Keep None ts) rest h = absurd h
    read_back (If t x a b) p (Keep (Some (IntValue n)) ts) rest h = absurd h
    read_back (If t x a b) p (Keep (Some (PairValue v w)) ts) rest h = absurd h
    read_back (If t x a b) p (Keep (Some (BoolValue true)) Done) rest h = absurd h
    read_back (If t x a b) p (Keep (Some (BoolValue true)) (Then tx Done)) rest h = absurd h.1
    read_back (If t x a b) p (Keep (Some (BoolValue true)) (Then tx (Then ta (Then u us)))) rest h = absurd h.1.1
    read_back (If t x a b) p (Keep (Some (BoolValue true)) (Then tx (Then ta Done))) rest h =
        let n = append-nil (kept_in ta) in
        let s = append_assoc (kept_in tx) (kept_in ta) rest in
        let ih = read_back x (suc p) tx (kept_in ta ++ rest) h.0 in
        let ih' = read_back a (suc p + size x) ta rest h.1.0 in
        rw (n, s, ih, ih') refl
    read_back (If t x a b) p (Keep (Some (BoolValue false)) Done) rest h = absurd h
    read_back (If t x a b) p (Keep (Some (BoolValue false)) (Then tx Done)) rest h = absurd h.1
    read_back (If t x a b) p (Keep (Some (BoolValue false)) (Then tx (Then tb (Then u us)))) rest h = absurd h.1.1
    read_back (If t x a b) p (Keep (Some (BoolValue false)) (Then tx (Then tb Done))) rest h =
        let n = append-nil (kept_in tb) in
        let s = append_assoc (kept_in tx) (kept_in tb) rest in
        let ih = read_back x (suc p) tx (kept_in tb ++ rest) h.0 in
        let ih' = read_back b (suc p + size x + size a) tb rest h.1.0 in
        rw (n, s, ih, ih') refl
    read_back (Let t a b) p (Keep (Some v) ts) rest h = absurd h
    read_back (Let t a b) p (Keep None Done) rest h = absurd h
    read_back (Let t a b) p (Keep None (Then ta Done)) rest h = absurd h.1
    read_back (Let t a b) p (Keep None (Then ta (Then tb (Then u us)))) rest h = absurd h.1.1
    read_back (Let t a b) p (Keep None (Then ta (Then tb Done))) rest h =
        let n = append-nil (kept_in tb) in
        let s = append_assoc (kept_in ta) (kept_in tb) rest in
        let ih = read_back a (suc p) ta (kept_in tb ++ rest) h.0 in
        let ih' = read_back b (suc p + size a) tb rest h.1.0 in
        rw (n, s, ih, ih') refl

    read_all_back : (xs : Terms) (p : ℕ) (ts : Trees) (rest : List LocalValue) → FitTrees c xs ts → left_by_all c p xs (kept_in_all ts ++ rest) ≡ Rest rest
    read_all_back NoMore p Done rest h = refl
    read_all_back NoMore p (Then u us) rest h = absurd h
    read_all_back (More x xs) p Done rest h = absurd h
    read_all_back (More x xs) p (Then u us) rest h =
        let s = append_assoc (kept_in u) (kept_in_all us) rest in
        let ih = read_back x p u (kept_in_all us ++ rest) h.0 in
        let ih' = read_all_back xs (p + size x) us rest h.1 in
        rw (s, ih, ih') refl

pub kept_lists_fit : (U : Unfolding) → KeptListsFit U
kept_lists_fit U e h =
    let n = append-nil (kept_in e.tree) in
    let r = read_back U.declared.ceiling U.main 0 e.tree [] h.tree in
    let r' : left_by U.declared.ceiling 0 U.main (kept_in e.tree) ≡ Rest [] = ap (left_by U.declared.ceiling 0 U.main) (sym n) ∙ r in
    rw r' refl
