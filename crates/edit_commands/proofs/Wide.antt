-- A value that is too wide for every type is refused where what stands for it is.
use Rattle.std.proofs.Common.{ℕ, suc, ◌≡◌, ◌+◌, ◌≤◌, ◌<◌, Bool, true, false, nat_le, ◌&&◌, List, [], ◌∷◌, map, refl, sym, ap, subst, ◌∙◌, None, if◌then◌else◌, arith}
use Rattle.std.proofs.lemmas.Bool.Decides.{nat_tests}
use Rattle.fc_values.specs.Types.{LocalType, IntType, BoolType, PairType, leaves}
use Rattle.fc_values.specs.Values.{LocalValue, IntValue, BoolValue, PairValue}
use Rattle.fc_values.specs.BuiltinTypes.{inner}
use Rattle.fc_nodes.specs.Terms.{Term, Terms, Plain, Apply, Nbr, Evolve, If, Let, NoMore, More, size}
use Rattle.fc_nodes.specs.Program.{Unfolding}
use Rattle.fc_nodes.specs.Flat.{by_truth}
use Rattle.value_trees.specs.KeptReads.{Left, Rest, Off, and_left, has_type, own_left, left_by, left_by_all, surplus, misfit_of}
use Rattle.edit_commands.specs.Narrow.{leaves_in, stand_in, narrow}
use Rattle.fc_nodes.proofs.NarrowTypes.{IsNarrow, Keeps, AllKeep}

-- a value that has a type has as many leaves
same_leaves : (c : ℕ) (s : LocalType) (v : LocalValue) → has_type c s v ≡ true → leaves_in v ≡ leaves s
same_leaves c IntType (IntValue n) h = refl
same_leaves c BoolType (BoolValue b) h = refl
same_leaves c (PairType s t) (PairValue v w) h = both (has_type c s v) (has_type c t w) h (same_leaves c s v) (same_leaves c t w)
  where
    both : (p q : Bool) → (p && q) ≡ true → (p ≡ true → leaves_in v ≡ leaves s) → (q ≡ true → leaves_in w ≡ leaves t) → leaves_in v + leaves_in w ≡ leaves s + leaves t
    both true true h f g = let e = f refl in let e' = g refl in omega arith
    both true false h f g = absurd cc
    both false q h f g = absurd cc
same_leaves c s v h = absurd cc

module _ (c : ℕ) (few : c ≤ 1000000) where
  too_great : (s : LocalType) → has_type c s (IntValue 4294967295) ≡ false
  too_great IntType = grind (arith, nat_tests)
  too_great BoolType = refl
  too_great (PairType s t) = refl

  -- what stands for a wide value has no type
  no_stand_in : (s : LocalType) → has_type c s stand_in ≡ false
  no_stand_in IntType = refl
  no_stand_in BoolType = refl
  no_stand_in (PairType s t) = ap (λ b. b && has_type c t (IntValue 4294967295)) (too_great s)

  pub narrow_types : (s : LocalType) (v : LocalValue) → IsNarrow s → has_type c s (narrow v) ≡ has_type c s v
  narrow_types s v h = by_test (nat_le (leaves_in v) 8) refl
    where
      wide : (b : Bool) → has_type c s v ≡ b → nat_le (leaves_in v) 8 ≡ false → false ≡ has_type c s v
      wide true e f = let l : leaves_in v ≡ leaves s = same_leaves c s v e in let g : 8 < leaves_in v = grind (arith, nat_tests) in absurd (omega (arith, h.few))
      wide false e f = sym e

      by_test : (b : Bool) → nat_le (leaves_in v) 8 ≡ b → has_type c s (if b then v else stand_in) ≡ has_type c s v
      by_test true e = refl
      by_test false e = no_stand_in s ∙ wide (has_type c s v) refl e

  pub narrow_same : (s : LocalType) (v : LocalValue) → IsNarrow s → has_type c s v ≡ true → narrow v ≡ v
  narrow_same s v h e =
      let l : leaves_in v ≡ leaves s = same_leaves c s v e in
      let g : nat_le (leaves_in v) 8 ≡ true = grind (arith, nat_tests, h.few) in
      rw g refl

-- ---- lists that are read along a term

abbrev narrowed : Left → Left
narrowed (Rest us) = Rest (map narrow us)
narrowed (Off p) = Off p

and_narrowed : (l : Left) (f g : List LocalValue → Left) → ((us : List LocalValue) → f (map narrow us) ≡ narrowed (g us)) → and_left (narrowed l) f ≡ narrowed (and_left l g)
and_narrowed (Rest us) f g h = h us
and_narrowed (Off p) f g h = refl

-- the term's values, then those of the next
then_narrowed : (l m : Left) (f g : List LocalValue → Left) → l ≡ narrowed m → ((us : List LocalValue) → f (map narrow us) ≡ narrowed (g us)) → and_left l f ≡ narrowed (and_left m g)
then_narrowed l m f g e h = ap (λ k. and_left k f) e ∙ and_narrowed m f g h

module _ (c : ℕ) (few : c ≤ 1000000) where
  own_narrowed : (s : LocalType) (p : ℕ) (vs : List LocalValue) (f g : LocalValue → List LocalValue → Left) → IsNarrow s
      → ((v : LocalValue) (us : List LocalValue) → has_type c s v ≡ true → f v (map narrow us) ≡ narrowed (g v us))
      → own_left c s p (map narrow vs) f ≡ narrowed (own_left c s p vs g)
  own_narrowed s p [] f g n h = refl
  own_narrowed s p (v ∷ vs) f g n h = by_test (has_type c s v) refl
    where
      by_test : (b : Bool) → has_type c s v ≡ b → (if has_type c s (narrow v) then f (narrow v) (map narrow vs) else Off p) ≡ narrowed (if b then g v vs else Off p)
      by_test true e =
          let t : has_type c s (narrow v) ≡ true = narrow_types c few s v n ∙ e in
          let same : narrow v ≡ v = narrow_same c few s v n e in
          ap (λ b. if b then f (narrow v) (map narrow vs) else Off p) t ∙ ap (λ w. f w (map narrow vs)) same ∙ h v vs e
      by_test false e = ap (λ b. if b then f (narrow v) (map narrow vs) else Off p) (narrow_types c few s v n ∙ e)

  -- what a truth value picks
  picked : (v : LocalValue) (a b x y : Left) → has_type c BoolType v ≡ true → a ≡ narrowed x → b ≡ narrowed y → by_truth v a b ≡ narrowed (by_truth v x y)
  picked (IntValue n) a b x y t e f = absurd cc
  picked (BoolValue true) a b x y t e f = e
  picked (BoolValue false) a b x y t e f = f
  picked (PairValue v w) a b x y t e f = absurd cc

  mutual
    left_narrowed : (p : ℕ) (t : Term) (vs : List LocalValue) → Keeps IsNarrow t → left_by c p t (map narrow vs) ≡ narrowed (left_by c p t vs)
    left_narrowed p (Plain t l) vs h = refl
    left_narrowed p (Apply t o xs) vs h = all_narrowed (suc p) xs vs h
    left_narrowed p (Nbr t a) vs h = own_narrowed (inner t) p vs _ _ h.0 (λ v us e. left_narrowed (suc p) a us h.1)
    left_narrowed p (Evolve t e a b) vs h =
        own_narrowed (inner t) p vs _ _ h.0 (λ v us e'. then_narrowed _ _ _ _ (left_narrowed (suc p) a us h.1) (λ ws. left_narrowed (suc p + size a) b ws h.2))
    left_narrowed p (If t x a b) vs h =
        own_narrowed BoolType p vs _ _ h.0
        (λ v us e. then_narrowed _ _ _ _ (left_narrowed (suc p) x us h.1)
        (λ ws. picked v _ _ _ _ e (left_narrowed (suc p + size x) a ws h.2) (left_narrowed (suc p + size x + size a) b ws h.3)))
    left_narrowed p (Let t a b) vs h = then_narrowed _ _ _ _ (left_narrowed (suc p) a vs h.0) (λ ws. left_narrowed (suc p + size a) b ws h.1)

    all_narrowed : (p : ℕ) (xs : Terms) (vs : List LocalValue) → AllKeep IsNarrow xs → left_by_all c p xs (map narrow vs) ≡ narrowed (left_by_all c p xs vs)
    all_narrowed p NoMore vs h = refl
    all_narrowed p (More x xs) vs h = then_narrowed _ _ _ _ (left_narrowed p x vs h.0) (λ us. all_narrowed (p + size x) xs us h.1)

  -- ---- what is read is narrow

  abbrev Same : List LocalValue → Type 0
  Same vs = map narrow vs ≡ vs

  own_same : (s : LocalType) (p : ℕ) (vs us : List LocalValue) (g : LocalValue → List LocalValue → Left) → IsNarrow s → own_left c s p vs g ≡ Rest us
      → ((v : LocalValue) (ws : List LocalValue) → has_type c s v ≡ true → g v ws ≡ Rest us → Same ws) → Same vs
  own_same s p [] us g n e h = refl
  own_same s p (v ∷ vs) us g n e h = by_test (has_type c s v) refl e
    where
      by_test : (b : Bool) → has_type c s v ≡ b → (if b then g v vs else Off p) ≡ Rest us → narrow v ∷ map narrow vs ≡ v ∷ vs
      by_test true t f = let same : narrow v ≡ v = narrow_same c few s v n t in let rest : map narrow vs ≡ vs = h v vs t f in ap (λ w. w ∷ map narrow vs) same ∙ ap (λ ws. v ∷ ws) rest
      by_test false t f = absurd cc

  then_same : (l : Left) (us vs : List LocalValue) (g : List LocalValue → Left) → and_left l g ≡ Rest us → ((ws : List LocalValue) → g ws ≡ Rest us → Same ws) → ((ws : List LocalValue) → l ≡ Rest ws → Same ws → Same vs) → Same vs
  then_same (Rest ws) us vs g e h k = k ws refl (h ws e)
  then_same (Off p) us vs g e h k = absurd cc

  picked_same : (v : LocalValue) (x y : Left) (us ws : List LocalValue) → has_type c BoolType v ≡ true → by_truth v x y ≡ Rest us → (x ≡ Rest us → Same ws) → (y ≡ Rest us → Same ws) → Same ws
  picked_same (IntValue n) x y us ws t e f g = absurd cc
  picked_same (BoolValue true) x y us ws t e f g = f e
  picked_same (BoolValue false) x y us ws t e f g = g e
  picked_same (PairValue v w) x y us ws t e f g = absurd cc

  mutual
    left_same : (p : ℕ) (t : Term) (vs us : List LocalValue) → Keeps IsNarrow t → left_by c p t vs ≡ Rest us → Same us → Same vs
    left_same p (Plain t l) vs us h e s = let f : vs ≡ us = cc in subst Same (sym f) s
    left_same p (Apply t o xs) vs us h e s = all_same (suc p) xs vs us h e s
    left_same p (Nbr t a) vs us h e s = own_same (inner t) p vs us _ h.0 e (λ v ws t' f. left_same (suc p) a ws us h.1 f s)
    left_same p (Evolve t e' a b) vs us h e s =
        own_same (inner t) p vs us _ h.0 e
        (λ v ws t' f. then_same (left_by c (suc p) a ws) us ws _ f (λ xs g. left_same (suc p + size a) b xs us h.2 g s) (λ xs g s'. left_same (suc p) a ws xs h.1 g s'))
    left_same p (If t x a b) vs us h e s =
        own_same BoolType p vs us _ h.0 e
        (λ v ws t' f. then_same (left_by c (suc p) x ws) us ws _ f
        (λ xs g. picked_same v (left_by c (suc p + size x) a xs) (left_by c (suc p + size x + size a) b xs) us xs t' g
        (λ k. left_same (suc p + size x) a xs us h.2 k s) (λ k. left_same (suc p + size x + size a) b xs us h.3 k s))
        (λ xs g s'. left_same (suc p) x ws xs h.1 g s'))
    left_same p (Let t a b) vs us h e s =
        then_same (left_by c (suc p) a vs) us vs _ e (λ xs g. left_same (suc p + size a) b xs us h.1 g s) (λ xs g s'. left_same (suc p) a vs xs h.0 g s')

    all_same : (p : ℕ) (xs : Terms) (vs us : List LocalValue) → AllKeep IsNarrow xs → left_by_all c p xs vs ≡ Rest us → Same us → Same vs
    all_same p NoMore vs us h e s = let f : vs ≡ us = cc in subst Same (sym f) s
    all_same p (More x xs) vs us h e s =
        then_same (left_by c p x vs) us vs _ e (λ ws g. all_same (p + size x) xs ws us h.1 g s) (λ ws g s'. left_same p x vs ws h.0 g s')

-- ---- whole lists

surplus_narrowed : (n : ℕ) (l : Left) → surplus n (narrowed l) ≡ surplus n l
surplus_narrowed n (Rest []) = refl
surplus_narrowed n (Rest (v ∷ vs)) = refl
surplus_narrowed n (Off p) = refl

no_surplus : (n : ℕ) (l : Left) → surplus n l ≡ None → l ≡ Rest []
no_surplus n (Rest []) h = refl
no_surplus n (Rest (v ∷ vs)) h = absurd cc
no_surplus n (Off p) h = absurd cc

pub misfit_narrow : (U : Unfolding) (ks : List LocalValue) → U.declared.ceiling ≤ 1000000 → Keeps IsNarrow U.main → misfit_of U (map narrow ks) ≡ misfit_of U ks
misfit_narrow U ks few h =
    ap (surplus (size U.main)) (left_narrowed U.declared.ceiling few 0 U.main ks h) ∙ surplus_narrowed (size U.main) (left_by U.declared.ceiling 0 U.main ks)

pub fitting_narrow : (U : Unfolding) (ks : List LocalValue) → U.declared.ceiling ≤ 1000000 → Keeps IsNarrow U.main → misfit_of U ks ≡ None → map narrow ks ≡ ks
fitting_narrow U ks few h e = left_same U.declared.ceiling few 0 U.main ks [] h (no_surplus (size U.main) (left_by U.declared.ceiling 0 U.main ks) e) refl
