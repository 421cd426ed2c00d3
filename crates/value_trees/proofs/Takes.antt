-- What items a reading leaves, term by term.
use Rattle.std.proofs.Common.{◌≡◌, ℕ, suc, ◌+◌, List, ◌∷◌, refl, sym, ◌∙◌, ap, Bool, true, false, Option, Some, None}
use Rattle.std.specs.Prelude.{if◌then◌else◌, ◌&&◌}
use Rattle.fc_values.specs.Types.{LocalType, ValueType, BoolType}
use Rattle.fc_values.specs.Values.{LocalValue, Fits}
use Rattle.fc_values.specs.BuiltinTypes.{inner}
use Rattle.fc_values.specs.Trees.{Keep, Done, Then}
use Rattle.fc_nodes.specs.Terms.{Term, Terms, Plain, Apply, Nbr, Evolve, If, Let, NoMore, More, size}
use Rattle.fc_nodes.proofs.Kids.{kids_of, own_type, branches}
use Rattle.value_trees.specs.KeptReads.{has_type}
use Rattle.value_trees.specs.SlotFits.{truth_in}
use Rattle.value_trees.proofs.ReadBack.{type_had, had_type}
use Rattle.value_trees.specs.KeptItems.{KeptItem, names_place, Taken, Took, Misfit, take_then, take_value, one_kid, two_kids, take_tree, take_trees}
use Rattle.value_trees.specs.Leavings.{Leaving, Leaves, Misses, leaving, and_leaving, leaves_by, leaves_by_all}
use Rattle.value_trees.specs.Filling.{own_at}

-- ---- what is left

pub and_same : (l : Leaving) (f g : List KeptItem → Leaving) → ((xs : List KeptItem) → f xs ≡ g xs) → and_leaving l f ≡ and_leaving l g
and_same (Leaves xs) f g h = h xs
and_same (Misses p) f g h = refl

module _ {A B : Type 0} where
  pub then_leaving : (t : Taken A) (f : A → List KeptItem → Taken B) (g : List KeptItem → Leaving) → ((a : A) (xs : List KeptItem) → leaving (f a xs) ≡ g xs) → leaving (take_then t f) ≡ and_leaving (leaving t) g
  then_leaving (Took a xs) f g h = h a xs
  then_leaving (Misfit p) f g h = refl

  pub renamed : (t : Taken A) (f : A → B) → leaving (take_then t (λ a xs. Took (f a) xs)) ≡ leaving t
  renamed (Took a xs) f = refl
  renamed (Misfit p) f = refl

same_then : {A B C : Type 0} (t : Taken A) (f : A → List KeptItem → Taken B) (g : A → List KeptItem → Taken C) → ((a : A) (xs : List KeptItem) → leaving (f a xs) ≡ leaving (g a xs)) → leaving (take_then t f) ≡ leaving (take_then t g)
same_then (Took a xs) f g h = h a xs
same_then (Misfit p) f g h = refl

-- ---- one value

pub value_taken : (c : ℕ) (s : LocalType) (p : ℕ) (x : KeptItem) (xs : List KeptItem) → names_place p x.place ≡ true → Fits c s x.value → take_value c s p (x ∷ xs) ≡ Took x.value xs
value_taken c s p x xs n h =
    let f = type_had c s x.value h in
    rw (n, f) refl

pub value_misfits : (c : ℕ) (s : LocalType) (p : ℕ) (x : KeptItem) (xs : List KeptItem) → (names_place p x.place ≡ true → Fits c s x.value → ⊥) → take_value c s p (x ∷ xs) ≡ Misfit p
value_misfits c s p x xs h = by_tests (names_place p x.place) (has_type c s x.value) h (had_type c s x.value)
  where
    by_tests : (m n : Bool) → (m ≡ true → Fits c s x.value → ⊥) → (n ≡ true → Fits c s x.value) → (if m && n then Took x.value xs else Misfit p) ≡ Misfit p
    by_tests true true h f = absurd (h refl (f refl))
    by_tests true false h f = refl
    by_tests false n h f = refl

-- ---- a node that is no `if`

pub node_takes : (c p : ℕ) (u : Term) (xs : List KeptItem) → branches u ≡ false → leaving (take_tree c u p xs) ≡ and_leaving (own_at true c (own_type u) p xs) (λ ys. leaving (take_trees c (kids_of u) (suc p) ys))
node_takes c p (Plain t l) xs e = refl
node_takes c p (Apply t o ts) xs e = renamed (take_trees c ts (suc p) xs) (λ kids. Keep None kids)
node_takes c p (Nbr t a) xs e =
    then_leaving (take_value c (inner t) p xs) (λ v ys. take_then (take_tree c a (suc p) ys) (λ k zs. Took (one_kid (Some v) k) zs)) (λ ys. leaving (take_trees c (More a NoMore) (suc p) ys))
    (λ v ys. renamed (take_tree c a (suc p) ys) (λ k. one_kid (Some v) k) ∙ sym (renamed (take_tree c a (suc p) ys) (λ k. Then k Done)))
node_takes c p (Evolve t v a b) xs e =
    then_leaving (take_value c (inner t) p xs) (λ v ys. take_then (take_tree c a (suc p) ys) (λ k zs. take_then (take_tree c b (suc p + size a) zs) (λ l us. Took (two_kids (Some v) k l) us))) (λ ys. leaving (take_trees c (More a (More b NoMore)) (suc p) ys))
    (λ v ys. two (Some v) ys)
  where
    two : (o : Option LocalValue) (ys : List KeptItem) → leaving (take_then (take_tree c a (suc p) ys) (λ k zs. take_then (take_tree c b (suc p + size a) zs) (λ l us. Took (two_kids o k l) us))) ≡ leaving (take_trees c (More a (More b NoMore)) (suc p) ys)
    two o ys = same_then (take_tree c a (suc p) ys) (λ k zs. take_then (take_tree c b (suc p + size a) zs) (λ l us. Took (two_kids o k l) us)) (λ k zs. take_then (take_trees c (More b NoMore) (suc p + size a) zs) (λ ks us. Took (Then k ks) us))
        (λ k zs. renamed (take_tree c b (suc p + size a) zs) (λ l. two_kids o k l) ∙ sym (renamed (take_trees c (More b NoMore) (suc p + size a) zs) (λ ks. Then k ks) ∙ renamed (take_tree c b (suc p + size a) zs) (λ l. Then l Done)))
node_takes c p (If t x a b) xs e = absurd cc
node_takes c p (Let t a b) xs e =
    same_then (take_tree c a (suc p) xs) (λ k zs. take_then (take_tree c b (suc p + size a) zs) (λ l us. Took (two_kids None k l) us)) (λ k zs. take_then (take_trees c (More b NoMore) (suc p + size a) zs) (λ ks us. Took (Then k ks) us))
    (λ k zs. renamed (take_tree c b (suc p + size a) zs) (λ l. two_kids None k l) ∙ sym (renamed (take_trees c (More b NoMore) (suc p + size a) zs) (λ ks. Then k ks) ∙ renamed (take_tree c b (suc p + size a) zs) (λ l. Then l Done)))

-- ---- the terms, one by one

module _ (c : ℕ) where
  pub apply_leaves : (p : ℕ) (t : ValueType) (o : _) (ts : Terms) (xs : List KeptItem) → leaves_by c p (Apply t o ts) xs ≡ leaves_by_all c (suc p) ts xs
  apply_leaves p t o ts xs = renamed (take_trees c ts (suc p) xs) (λ kids. Keep None kids)

  pub more_leaves : (p : ℕ) (t : Term) (ts : Terms) (xs : List KeptItem) → leaves_by_all c p (More t ts) xs ≡ and_leaving (leaves_by c p t xs) (λ ys. leaves_by_all c (p + size t) ts ys)
  more_leaves p t ts xs =
      then_leaving (take_tree c t p xs) (λ k ys. take_then (take_trees c ts (p + size t) ys) (λ ks zs. Took (Then k ks) zs)) (λ ys. leaves_by_all c (p + size t) ts ys)
      (λ k ys. renamed (take_trees c ts (p + size t) ys) (λ ks. Then k ks))

  pub nbr_leaves : (p : ℕ) (t : ValueType) (a : Term) (xs : List KeptItem) → leaves_by c p (Nbr t a) xs ≡ and_leaving (leaving (take_value c (inner t) p xs)) (λ ys. leaves_by c (suc p) a ys)
  nbr_leaves p t a xs =
      then_leaving (take_value c (inner t) p xs) (λ v ys. take_then (take_tree c a (suc p) ys) (λ k zs. Took (one_kid (Some v) k) zs)) (λ ys. leaves_by c (suc p) a ys)
      (λ v ys. renamed (take_tree c a (suc p) ys) (λ k. one_kid (Some v) k))

  -- two kids, one after the other
  two_leave : (o : Option LocalValue) (a b : Term) (p q : ℕ) (xs : List KeptItem) → leaving (take_then (take_tree c a p xs) (λ k zs. take_then (take_tree c b q zs) (λ l us. Took (two_kids o k l) us))) ≡ and_leaving (leaves_by c p a xs) (λ zs. leaves_by c q b zs)
  two_leave o a b p q xs =
      then_leaving (take_tree c a p xs) (λ k zs. take_then (take_tree c b q zs) (λ l us. Took (two_kids o k l) us)) (λ zs. leaves_by c q b zs)
      (λ k zs. renamed (take_tree c b q zs) (λ l. two_kids o k l))

  pub evolve_leaves : (p : ℕ) (t : ValueType) (e : _) (a b : Term) (xs : List KeptItem)
      → leaves_by c p (Evolve t e a b) xs ≡ and_leaving (leaving (take_value c (inner t) p xs)) (λ ys. and_leaving (leaves_by c (suc p) a ys) (λ zs. leaves_by c (suc p + size a) b zs))
  evolve_leaves p t e a b xs =
      then_leaving (take_value c (inner t) p xs) (λ v ys. take_then (take_tree c a (suc p) ys) (λ k zs. take_then (take_tree c b (suc p + size a) zs) (λ l us. Took (two_kids (Some v) k l) us)))
      (λ ys. and_leaving (leaves_by c (suc p) a ys) (λ zs. leaves_by c (suc p + size a) b zs)) (λ v ys. two_leave (Some v) a b (suc p) (suc p + size a) ys)

  pub let_leaves : (p : ℕ) (t : ValueType) (a b : Term) (xs : List KeptItem) → leaves_by c p (Let t a b) xs ≡ and_leaving (leaves_by c (suc p) a xs) (λ zs. leaves_by c (suc p + size a) b zs)
  let_leaves p t a b xs = two_leave None a b (suc p) (suc p + size a) xs

  -- the own value misfits
  pub if_misses : (p : ℕ) (t : ValueType) (x a b : Term) (xs : List KeptItem) (q : ℕ) → leaving (take_value c BoolType p xs) ≡ Misses q → leaves_by c p (If t x a b) xs ≡ Misses q
  if_misses p t x a b xs q e = by_taken (take_value c BoolType p xs) e
    where
      by_taken : (o : Taken LocalValue) → leaving o ≡ Misses q
          → leaving (take_then o (λ v ys. take_then (take_tree c x (suc p) ys) (λ k zs. take_then (if truth_in v then take_tree c a (suc p + size x) zs else take_tree c b (suc p + size x + size a) zs) (λ l us. Took (two_kids (Some v) k l) us)))) ≡ Misses q
      by_taken (Took v ys) f = absurd cc
      by_taken (Misfit r) f = f

  -- the own value is taken, and names a branch
  pub if_leaves : (p : ℕ) (t : ValueType) (x a b : Term) (xs ys : List KeptItem) (v : LocalValue) → take_value c BoolType p xs ≡ Took v ys
      → leaves_by c p (If t x a b) xs ≡ and_leaving (leaves_by c (suc p) x ys) (λ zs. if truth_in v then leaves_by c (suc p + size x) a zs else leaves_by c (suc p + size x + size a) b zs)
  if_leaves p t x a b xs ys v e =
      ap (λ (o : Taken LocalValue). leaving (take_then o (λ v ys. take_then (take_tree c x (suc p) ys) (λ k zs. take_then (if truth_in v then take_tree c a (suc p + size x) zs else take_tree c b (suc p + size x + size a) zs) (λ l us. Took (two_kids (Some v) k l) us))))) e
      ∙ then_leaving (take_tree c x (suc p) ys) (λ k zs. take_then (if truth_in v then take_tree c a (suc p + size x) zs else take_tree c b (suc p + size x + size a) zs) (λ l us. Took (two_kids (Some v) k l) us))
      (λ zs. if truth_in v then leaves_by c (suc p + size x) a zs else leaves_by c (suc p + size x + size a) b zs) (λ k zs. arm (truth_in v) k zs)
    where
      arm : (d : Bool) (k : _) (zs : List KeptItem) → leaving (take_then (if d then take_tree c a (suc p + size x) zs else take_tree c b (suc p + size x + size a) zs) (λ l us. Took (two_kids (Some v) k l) us))
          ≡ (if d then leaves_by c (suc p + size x) a zs else leaves_by c (suc p + size x + size a) b zs)
      arm true k zs = renamed (take_tree c a (suc p + size x) zs) (λ l. two_kids (Some v) k l)
      arm false k zs = renamed (take_tree c b (suc p + size x + size a) zs) (λ l. two_kids (Some v) k l)

-- the first item, of which a value is left
pub head_taken : (c : ℕ) (s : LocalType) (p : ℕ) (x : KeptItem) (xs ys : List KeptItem) → leaving (take_value c s p (x ∷ xs)) ≡ Leaves ys → take_value c s p (x ∷ xs) ≡ Took x.value ys
head_taken c s p x xs ys e = by_test (names_place p x.place && has_type c s x.value) e
  where
    by_test : (q : Bool) → leaving (if q then Took x.value xs else Misfit p) ≡ Leaves ys → (if q then Took x.value xs else Misfit p) ≡ Took x.value ys
    by_test true f = let s : xs ≡ ys = cc in ap (Took x.value) s
    by_test false f = absurd cc
