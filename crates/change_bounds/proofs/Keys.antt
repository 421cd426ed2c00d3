-- Crates above cite this module: look-ups by numbers, and by pairs of numbers.
use Rattle.std.proofs.Common.{◌≡◌, ℕ, Bool, true, false, cond, ◌&&◌, nat_eq, nat_lt, refl, sym, ap, subst, ◌∙◌, arith, Some, if◌then◌else◌}
use Rattle.std.proofs.lemmas.Bool.{ltb-true, eqb-true, eq-eqb, ne_eqb, eqb-false}
use Rattle.std.specs.Ordering.{nat_cmp, ordering_then, is_eq}
use Rattle.std.specs.declared.cmp.Ordering.{Ordering}
use Rattle.std.specs.declared.cmp.Ordering.TheVariants.{Less, Equal, Greater}
use Rattle.std.specs.BTreeMap.{BTreeMap, get, Updates, WritesThrough}
use Rattle.std.specs.Prelude.{Option, option_map, IsSome}
use Rattle.value_bounds.proofs.Values.{nat_same, flips}
use Rattle.change_bounds.specs.Tables.{by_pair}

pub same_number : (a b : ℕ) → nat_eq a b ≡ nat_eq b a
same_number a b = by_test (nat_eq a b) refl
  where
    by_test : (t : Bool) → nat_eq a b ≡ t → t ≡ nat_eq b a
    by_test true e = let s = nat_same a b e in sym (ap (nat_eq b) s ∙ own b)
      where
        own : (k : ℕ) → nat_eq k k ≡ true
        own k = eq-eqb k k refl
    by_test false e = sym (flips a b e)

pub at_number : (k q : ℕ) → is_eq (nat_cmp k q) ≡ nat_eq q k
at_number k q = by_tests (nat_lt k q) refl (nat_eq k q) refl
  where
    by_tests : (s : Bool) → nat_lt k q ≡ s → (t : Bool) → nat_eq k q ≡ t → is_eq (cond s Less (cond t Equal Greater)) ≡ nat_eq q k
    by_tests true e t f = let l = ltb-true k q e in sym (ne_eqb q k (λ same. absurd (omega (arith, l, same))))
    by_tests false e true f = sym (eq-eqb q k (sym (eqb-true k q f)))
    by_tests false e false f = sym (ne_eqb q k (λ same. eqb-false k q f (sym same)))

pub put_number : {X : Type 0} (m n : BTreeMap ℕ X) (k q : ℕ) (v : X) → Updates nat_cmp m n k (Some v) → get nat_cmp n q ≡ (if nat_eq q k then Some v else get nat_cmp m q)
put_number m n k q v h = h.0 q ∙ ap (λ b. if b then Some v else get nat_cmp m q) (at_number k q)

-- ---- pairs

pub at_pair : (k q : ℕ × ℕ) → is_eq (by_pair k q) ≡ (nat_eq q.0 k.0 && nat_eq q.1 k.1)
at_pair k q = by_first (nat_cmp k.0 q.0) (at_number k.0 q.0) ∙ ap (λ b. nat_eq q.0 k.0 && b) (at_number k.1 q.1)
  where
    by_first : (o : Ordering) → is_eq o ≡ nat_eq q.0 k.0 → is_eq (ordering_then o (nat_cmp k.1 q.1)) ≡ (nat_eq q.0 k.0 && is_eq (nat_cmp k.1 q.1))
    by_first Less e = ap (λ b. b && is_eq (nat_cmp k.1 q.1)) e
    by_first Equal e = ap (λ b. b && is_eq (nat_cmp k.1 q.1)) e
    by_first Greater e = ap (λ b. b && is_eq (nat_cmp k.1 q.1)) e

pub put_pair : {X : Type 0} (m n : BTreeMap (ℕ × ℕ) X) (k : ℕ × ℕ) (v : X) → Updates by_pair m n k (Some v) → (x y : ℕ)
    → get by_pair n (x, y) ≡ (if nat_eq x k.0 && nat_eq y k.1 then Some v else get by_pair m (x, y))
put_pair m n k v h x y = h.0 (x, y) ∙ ap (λ b. if b then Some v else get by_pair m (x, y)) (at_pair k (x, y))

-- a value that stands at a pair and is written over
pub over_pair : {X : Type 0} (f : X → X) (m n : BTreeMap (ℕ × ℕ) X) (k : ℕ × ℕ) (v : X) → get by_pair m k ≡ Some v → WritesThrough by_pair (by_pair k) m (f v) n → (x y : ℕ)
    → get by_pair n (x, y) ≡ (if nat_eq x k.0 && nat_eq y k.1 then option_map f (get by_pair m (x, y)) else get by_pair m (x, y))
over_pair {X} f m n k v e h x y = (h.3 (subst IsSome (sym e) refl)).0 (x, y) ∙ ap (λ b. if b then Some (f v) else get by_pair m (x, y)) (at_pair k (x, y)) ∙ by_tests (nat_eq x k.0) refl (nat_eq y k.1) refl
  where
    by_tests : (s : Bool) → nat_eq x k.0 ≡ s → (t : Bool) → nat_eq y k.1 ≡ t → (if s && t then Some (f v) else get by_pair m (x, y)) ≡ (if s && t then option_map f (get by_pair m (x, y)) else get by_pair m (x, y))
    by_tests true p true q =
        let there : get by_pair m (x, y) ≡ Some v = ap (λ i. get by_pair m (i, y)) (nat_same x k.0 p) ∙ ap (λ j. get by_pair m (k.0, j)) (nat_same y k.1 q) ∙ e in
        sym (ap (option_map f) there)
    by_tests true p false q = refl
    by_tests false p t q = refl

-- a value that is made of what stands at a pair, and put there
pub made_pair : {X : Type 0} (g : Option X → X) (m n : BTreeMap (ℕ × ℕ) X) (k : ℕ × ℕ) (v : X) → v ≡ g (get by_pair m k) → Updates by_pair m n k (Some v) → (x y : ℕ)
    → get by_pair n (x, y) ≡ (if nat_eq x k.0 && nat_eq y k.1 then Some (g (get by_pair m (x, y))) else get by_pair m (x, y))
made_pair {X} g m n k v e h x y = put_pair m n k v h x y ∙ by_tests (nat_eq x k.0) refl (nat_eq y k.1) refl
  where
    by_tests : (s : Bool) → nat_eq x k.0 ≡ s → (t : Bool) → nat_eq y k.1 ≡ t → (if s && t then Some v else get by_pair m (x, y)) ≡ (if s && t then Some (g (get by_pair m (x, y))) else get by_pair m (x, y))
    by_tests true p true q =
        ap Some (e ∙ ap g (ap (λ i. get by_pair m (i, k.1)) (sym (nat_same x k.0 p)) ∙ ap (λ j. get by_pair m (x, j)) (sym (nat_same y k.1 q))))
    by_tests true p false q = refl
    by_tests false p t q = refl
