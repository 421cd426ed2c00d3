-- Crates above cite this module: sums over views, numbers given out, and elements of lists.
use Rattle.std.proofs.Common.{◌≡◌, ℕ, ◌+◌, ◌<◌, ◌≤◌, ◌≢◌, ◌⊎◌, ⊎_elim, eqb, ltb, eq-eqb, ne_eqb, cond, zero, suc, List, [], ◌∷◌, ◌++◌, length, set, sym, refl, ap, ◌∙◌, subst, inl, inr, arith, Bool, true, false}
use mathlib.Core.Option.{some, some-injective, some-ne-none}
use lib.ListN.{get_elem?}
use Rattle.atomic_table.proofs.Lists.{at_set}
use Rattle.std.proofs.lemmas.Bool.{ltb-true, ltb-false}
use Rattle.std.proofs.lemmas.Bool.Decides.{eqb_tells}
use Rattle.turn_lock.specs.Logs.{In, Rises, StartsWith, without, last_of, put_in, merged, longer}
use Rattle.turn_lock.specs.Rule.{total}

module _ {V : Type 0} where
  pub total_set : (f : V → ℕ) (vs : List V) (i : ℕ) (v w : V) → get_elem? vs i ≡ some v → total f (set vs i w) + f v ≡ total f vs + f w
  total_set f [] i v w e = absurd (some-ne-none v (sym e))
  total_set f (x ∷ xs) zero v w e = let p = ap f (some-injective x v e) in omega arith
  total_set f (x ∷ xs) (suc i) v w e = let p = total_set f xs i v w e in omega arith

  pub total_snoc : (f : V → ℕ) (vs : List V) (w : V) → total f (vs ++ w ∷ []) ≡ total f vs + f w
  total_snoc f [] w = omega arith
  total_snoc f (x ∷ xs) w = let p = total_snoc f xs w in omega arith

  pub total_le : (f g : V → ℕ) (vs : List V) → ((i : ℕ) (v : V) → get_elem? vs i ≡ some v → f v ≤ g v) → total f vs ≤ total g vs
  total_le f g [] h = omega arith
  total_le f g (x ∷ xs) h = let p = total_le f g xs (λ i v e. h (suc i) v e) in let q = h zero x refl in omega arith

  pub total_at : (f : V → ℕ) (vs : List V) (i : ℕ) (v : V) → get_elem? vs i ≡ some v → f v ≤ total f vs
  total_at f [] i v e = absurd (some-ne-none v (sym e))
  total_at f (x ∷ xs) zero v e = let p = ap f (some-injective x v e) in omega arith
  total_at f (x ∷ xs) (suc i) v e = let p = total_at f xs i v e in omega arith

  total_zero : (f : V → ℕ) (vs : List V) → ((j : ℕ) (x : V) → get_elem? vs j ≡ some x → f x ≡ 0) → total f vs ≡ 0
  total_zero f [] h = refl
  total_zero f (x ∷ xs) h = let p = total_zero f xs (λ i v e. h (suc i) v e) in let q = h zero x refl in omega arith

  -- where all others have none
  pub total_only : (f : V → ℕ) (vs : List V) (i : ℕ) (v : V) → get_elem? vs i ≡ some v → ((j : ℕ) (x : V) → get_elem? vs j ≡ some x → j ≢ i → f x ≡ 0) → total f vs ≡ f v
  total_only f [] i v e h = absurd (some-ne-none v (sym e))
  total_only f (x ∷ xs) zero v e h = let p = ap f (some-injective x v e) in let q = total_zero f xs (λ j y at. h (suc j) y at (λ n. absurd (omega (arith, n)))) in omega arith
  total_only f (x ∷ xs) (suc i) v e h = let p = total_only f xs i v e (λ j y at n. h (suc j) y at (λ same. n (omega (arith, same)))) in let q = h zero x refl (λ n. absurd (omega (arith, n))) in omega arith

  -- a fact about each, after one has changed
  pub each_set : (P : ℕ → V → Type 0) (vs : List V) (i : ℕ) (w : V) → P i w → ((j : ℕ) (v : V) → j ≢ i → get_elem? vs j ≡ some v → P j v)
      → (j : ℕ) (v : V) → get_elem? (set vs i w) j ≡ some v → P j v
  each_set P vs i w own others j v e = ⊎_elim (λ (t : (j ≡ i) × (w ≡ v)). subst (λ (z : ℕ × V). P z.0 z.1) (λ k. (sym t.0 k, t.1 k)) own) (λ (t : (j ≢ i) × (get_elem? vs j ≡ some v)). others j v t.0 t.1) (at_set vs i j w v e)

  pub set_there : (l : List V) (i : ℕ) (a b : V) → get_elem? l i ≡ some b → get_elem? (set l i a) i ≡ some a
  set_there [] i a b e = absurd (some-ne-none b (sym e))
  set_there (x ∷ xs) zero a b e = refl
  set_there (x ∷ xs) (suc i) a b e = set_there xs i a b e

  pub each_one : (P : ℕ → V → Type 0) (w : V) → P zero w → (j : ℕ) (v : V) → get_elem? (w ∷ []) j ≡ some v → P j v
  each_one P w own zero v e = subst (P zero) (some-injective w v e) own
  each_one P w own (suc j) v e = absurd (some-ne-none v (sym e))

  at_end : (l : List V) (a b : V) (j : ℕ) → get_elem? (l ++ a ∷ []) j ≡ some b → (get_elem? l j ≡ some b) ⊎ ((j ≡ length l) × (a ≡ b))
  at_end [] a b zero e = inr (refl, some-injective a b e)
  at_end [] a b (suc j) e = absurd (some-ne-none b (sym e))
  at_end (x ∷ xs) a b zero e = inl e
  at_end (x ∷ xs) a b (suc j) e = ⊎_elim (λ t. inl t) (λ (t : (j ≡ length xs) × (a ≡ b)). inr (omega (arith, t.0), t.1)) (at_end xs a b j e)

  -- a fact about each, with one more
  pub each_snoc : (P : ℕ → V → Type 0) (vs : List V) (w : V) → P (length vs) w → ((j : ℕ) (v : V) → get_elem? vs j ≡ some v → P j v) → (j : ℕ) (v : V) → get_elem? (vs ++ w ∷ []) j ≡ some v → P j v
  each_snoc P vs w own others j v e = ⊎_elim (λ t. others j v t) (λ (t : (j ≡ length vs) × (w ≡ v)). subst (λ (z : ℕ × V). P z.0 z.1) (λ k. (sym t.0 k, t.1 k)) own) (at_end vs w v j e)

  pub at_below : (l : List V) (i : ℕ) (a : V) → get_elem? l i ≡ some a → i < length l
  at_below [] i a e = absurd (some-ne-none a (sym e))
  at_below (x ∷ xs) zero a e = omega arith
  at_below (x ∷ xs) (suc i) a e = let p = at_below xs i a e in omega arith

-- the function with i at t
pub put : (ℕ → ℕ) → ℕ → ℕ → ℕ → ℕ
put f t i u = cond (eqb u t) i (f u)

pub put_here : (f : ℕ → ℕ) (t i : ℕ) → put f t i t ≡ i
unfolding put
put_here f t i = ap (λ b. cond b i (f t)) (eq-eqb t t refl)

pub put_else : (f : ℕ → ℕ) (t i u : ℕ) → u ≢ t → put f t i u ≡ f u
unfolding put
put_else f t i u n = ap (λ b. cond b i (f u)) (ne_eqb u t n)

module _ {A : Type 0} where
  pub in_snoc : (x y : A) (l : List A) → In x (l ++ y ∷ []) → In x l ⊎ (x ≡ y)
  in_snoc x y [] (inl e) = inr e
  in_snoc x y [] (inr n) = absurd n
  in_snoc x y (z ∷ zs) (inl e) = inl (inl e)
  in_snoc x y (z ∷ zs) (inr n) = ⊎_elim (λ t. inl (inr t)) (λ e. inr e) (in_snoc x y zs n)

  pub in_left : (x : A) (l m : List A) → In x l → In x (l ++ m)
  in_left x [] m n = absurd n
  in_left x (z ∷ zs) m (inl e) = inl e
  in_left x (z ∷ zs) m (inr n) = inr (in_left x zs m n)

  pub in_last : (x : A) (l : List A) → In x (l ++ x ∷ [])
  in_last x [] = inl refl
  in_last x (z ∷ zs) = inr (in_last x zs)

  head_or : A → List A → A
  head_or x [] = x
  head_or x (y ∷ ys) = y

  tail_of : List A → List A
  tail_of [] = []
  tail_of (y ∷ ys) = ys

  cons_head : (x y : A) (xs ys : List A) → x ∷ xs ≡ y ∷ ys → x ≡ y
  unfolding head_or
  cons_head x y xs ys e = ap (head_or x) e

  cons_tail : (x y : A) (xs ys : List A) → x ∷ xs ≡ y ∷ ys → xs ≡ ys
  unfolding tail_of
  cons_tail x y xs ys e = ap tail_of e

  -- of two beginnings of one list the shorter begins the longer
  pub begins_both : (log a b : List A) → StartsWith log a → StartsWith log b → length a ≤ length b → StartsWith b a
  begins_both log [] b p q le = (b, refl)
  begins_both log (x ∷ a) [] p q le = absurd (omega arith)
  begins_both log (x ∷ a) (y ∷ b) p q le =
      let e : x ∷ (a ++ p.0) ≡ y ∷ (b ++ q.0) = sym p.1 ∙ q.1 in
      let t = begins_both (b ++ q.0) a b (p.0, sym (cons_tail x y (a ++ p.0) (b ++ q.0) e)) (q.0, refl) (omega arith) in
      (t.0, λ k. sym (cons_head x y (a ++ p.0) (b ++ q.0) e) k ∷ t.1 k)

  longer_by : (log a b : List A) (t : Bool) → ltb (length a) (length b) ≡ t → StartsWith log a → StartsWith log b → StartsWith log (cond t b a) × (length a ≤ length (cond t b a)) × (length b ≤ length (cond t b a))
  longer_by log a b true is p q = (q, (let l = ltb-true (length a) (length b) is in omega arith), omega arith)
  longer_by log a b false is p q = (p, omega arith, ltb-false (length a) (length b) is)

  pub longer_of : (log a b : List A) → StartsWith log a → StartsWith log b → StartsWith log (longer a b)
  longer_of log a b p q = (longer_by log a b (ltb (length a) (length b)) refl p q).0

  longest_by : (a b : List A) (t : Bool) → ltb (length a) (length b) ≡ t → (length a ≤ length (cond t b a)) × (length b ≤ length (cond t b a))
  longest_by a b true is = ((let l = ltb-true (length a) (length b) is in omega arith), omega arith)
  longest_by a b false is = (omega arith, ltb-false (length a) (length b) is)

  pub longest : (a b : List A) → (length a ≤ length (longer a b)) × (length b ≤ length (longer a b))
  longest a b = longest_by a b (ltb (length a) (length b)) refl

  -- what is merged
  put_in_by : (z x y : ℕ × A) (ys : List (ℕ × A)) (t : Bool) → (In z (put_in x ys) → In z (x ∷ ys)) → In z (cond t (x ∷ y ∷ ys) (y ∷ put_in x ys)) → In z (x ∷ y ∷ ys)
  put_in_by z x y ys true h n = n
  put_in_by z x y ys false h (inl e) = inr (inl e)
  put_in_by z x y ys false h (inr n) = ⊎_elim (λ e. inl e) (λ m. inr (inr m)) (h n)

  pub from_put_in : (z x : ℕ × A) (ys : List (ℕ × A)) → In z (put_in x ys) → In z (x ∷ ys)
  from_put_in z x [] n = n
  from_put_in z x (y ∷ ys) n = put_in_by z x y ys (ltb x.0 y.0) (from_put_in z x ys) n

  to_put_by : (z x y : ℕ × A) (ys : List (ℕ × A)) (t : Bool) → (In z (x ∷ ys) → In z (put_in x ys)) → In z (x ∷ y ∷ ys) → In z (cond t (x ∷ y ∷ ys) (y ∷ put_in x ys))
  to_put_by z x y ys true h n = n
  to_put_by z x y ys false h (inl e) = inr (h (inl e))
  to_put_by z x y ys false h (inr (inl e)) = inl e
  to_put_by z x y ys false h (inr (inr n)) = inr (h (inr n))

  pub to_put_in : (z x : ℕ × A) (ys : List (ℕ × A)) → In z (x ∷ ys) → In z (put_in x ys)
  to_put_in z x [] n = n
  to_put_in z x (y ∷ ys) n = to_put_by z x y ys (ltb x.0 y.0) (to_put_in z x ys) n

  pub from_merged : (z : ℕ × A) (xs ys : List (ℕ × A)) → In z (merged xs ys) → In z xs ⊎ In z ys
  from_merged z xs [] n = inl n
  from_merged z xs (y ∷ ys) n = ⊎_elim (λ e. inr (inl e)) (λ m. ⊎_elim (λ a. inl a) (λ b. inr (inr b)) (from_merged z xs ys m)) (from_put_in z y (merged xs ys) n)

  pub to_merged : (z : ℕ × A) (xs ys : List (ℕ × A)) → In z xs ⊎ In z ys → In z (merged xs ys)
  to_merged z xs [] (inl n) = n
  to_merged z xs [] (inr n) = absurd n
  to_merged z xs (y ∷ ys) (inl n) = to_put_in z y (merged xs ys) (inr (to_merged z xs ys (inl n)))
  to_merged z xs (y ∷ ys) (inr (inl e)) = to_put_in z y (merged xs ys) (inl e)
  to_merged z xs (y ∷ ys) (inr (inr n)) = to_put_in z y (merged xs ys) (inr (to_merged z xs ys (inr n)))

  put_length_by : (x y : ℕ × A) (ys : List (ℕ × A)) (t : Bool) → length (put_in x ys) ≡ length ys + 1 → length (cond t (x ∷ y ∷ ys) (y ∷ put_in x ys)) ≡ length ys + 2
  put_length_by x y ys true h = omega arith
  put_length_by x y ys false h = omega (arith, h)

  put_length : (x : ℕ × A) (ys : List (ℕ × A)) → length (put_in x ys) ≡ length ys + 1
  put_length x [] = omega arith
  put_length x (y ∷ ys) = let p = put_length_by x y ys (ltb x.0 y.0) (put_length x ys) in omega arith

  pub merged_length : (xs ys : List (ℕ × A)) → length (merged xs ys) ≡ length xs + length ys
  merged_length xs [] = omega arith
  merged_length xs (y ∷ ys) = let p = put_length y (merged xs ys) in let q = merged_length xs ys in omega arith

module _ {A : Type 0} where
  pub rises_snoc : (xs : List (ℕ × A)) (n : ℕ) (e : A) → Rises xs → ((p : ℕ) (f : A) → In (p, f) xs → p < n) → Rises (xs ++ (n, e) ∷ [])
  rises_snoc [] n e r below = ((λ q f i. absurd i), tt)
  rises_snoc (x ∷ xs) n e r below = ((λ q f i. ⊎_elim (λ t. r.0 q f t) (λ t. let b = below x.0 x.1 (inl refl) in let s = ap (λ (z : ℕ × A). z.0) t in omega (arith, b, s)) (in_snoc (q, f) (n, e) xs i)), rises_snoc xs n e r.1 (λ p f i. below p f (inr i)))

  rises_by : (x y : ℕ × A) (ys : List (ℕ × A)) (t : Bool) → ltb x.0 y.0 ≡ t → x.0 ≢ y.0 → Rises (y ∷ ys) → Rises (put_in x ys) → Rises (cond t (x ∷ y ∷ ys) (y ∷ put_in x ys))
  rises_by x y ys true is n r s = let l = ltb-true x.0 y.0 is in
      ((λ q f i. ⊎_elim (λ t. let e = ap (λ (z : ℕ × A). z.0) t in omega (arith, l, e)) (λ t. let b = r.0 q f t in omega (arith, l, b)) i), r)
  rises_by x y ys false is n r s = let l = ltb-false x.0 y.0 is in
      ((λ q f i. ⊎_elim (λ t. let e = ap (λ (z : ℕ × A). z.0) t in omega (arith, l, e, n)) (λ t. r.0 q f t) (from_put_in (q, f) x ys i)), s)

  rises_put : (x : ℕ × A) (ys : List (ℕ × A)) → Rises ys → ((p : ℕ) (f : A) → In (p, f) ys → x.0 ≢ p) → Rises (put_in x ys)
  rises_put x [] r n = ((λ q f i. absurd i), tt)
  rises_put x (y ∷ ys) r n = rises_by x y ys (ltb x.0 y.0) refl (n y.0 y.1 (inl refl)) r (rises_put x ys r.1 (λ p f i. n p f (inr i)))

  pub rises_merged : (xs ys : List (ℕ × A)) → Rises xs → Rises ys → ((p : ℕ) (e f : A) → In (p, e) xs → In (p, f) ys → ⊥) → Rises (merged xs ys)
  rises_merged xs [] r s apart = r
  rises_merged xs (y ∷ ys) r s apart = rises_put y (merged xs ys) (rises_merged xs ys r s.1 (λ p e f i j. apart p e f i (inr j)))
      (λ p f i same. ⊎_elim (λ t. apart p f y.1 t (inl (λ k. (sym same k, y.1)))) (λ t. let b = s.0 p f t in absurd (omega (arith, b, same))) (from_merged (p, f) xs ys i))

-- numbers that are taken out
without_by : (j k x : ℕ) (xs : List ℕ) (t : Bool) → (In j (without k xs) → In j xs) → In j (cond t (without k xs) (x ∷ without k xs)) → In j (x ∷ xs)
without_by j k x xs true h n = inr (h n)
without_by j k x xs false h (inl e) = inl e
without_by j k x xs false h (inr n) = inr (h n)

pub in_without : (j k : ℕ) (l : List ℕ) → In j (without k l) → In j l
in_without j k [] n = n
in_without j k (x ∷ xs) n = without_by j k x xs (eqb k x) (in_without j k xs) n

stays_by : (j k x : ℕ) (xs : List ℕ) → ((eqb k x ≡ true) × (k ≡ x)) ⊎ ((eqb k x ≡ false) × (k ≢ x)) → j ≢ k → (In j xs → In j (without k xs)) → In j (x ∷ xs) → In j (cond (eqb k x) (without k xs) (x ∷ without k xs))
stays_by j k x xs (inl t) n h (inl e) = absurd (n (e ∙ sym t.1))
stays_by j k x xs (inl t) n h (inr m) = subst (λ b. In j (cond b (without k xs) (x ∷ without k xs))) (sym t.0) (h m)
stays_by j k x xs (inr t) n h (inl e) = subst (λ b. In j (cond b (without k xs) (x ∷ without k xs))) (sym t.0) (inl e)
stays_by j k x xs (inr t) n h (inr m) = subst (λ b. In j (cond b (without k xs) (x ∷ without k xs))) (sym t.0) (inr (h m))

pub stays_without : (j k : ℕ) (l : List ℕ) → j ≢ k → In j l → In j (without k l)
stays_without j k [] n m = m
stays_without j k (x ∷ xs) n m = stays_by j k x xs (eqb_tells k x) n (stays_without j k xs n) m

pub last_snoc : (l : List ℕ) (k : ℕ) → last_of (l ++ k ∷ []) ≡ k
last_snoc [] k = refl
last_snoc (x ∷ []) k = refl
last_snoc (x ∷ y ∷ ys) k = last_snoc (y ∷ ys) k

last_by : (k x : ℕ) (xs : List ℕ) → ((eqb k x ≡ true) × (k ≡ x)) ⊎ ((eqb k x ≡ false) × (k ≢ x)) → k ≢ x → without k (xs ++ k ∷ []) ≡ xs → cond (eqb k x) (without k (xs ++ k ∷ [])) (x ∷ without k (xs ++ k ∷ [])) ≡ x ∷ xs
last_by k x xs (inl t) n e = absurd (n t.1)
last_by k x xs (inr t) n e = ap (λ b. cond b (without k (xs ++ k ∷ [])) (x ∷ without k (xs ++ k ∷ []))) t.0 ∙ ap (λ l. x ∷ l) e

-- a new number that is taken out again
pub without_last : (k : ℕ) (xs : List ℕ) → ((j : ℕ) → In j xs → k ≢ j) → without k (xs ++ k ∷ []) ≡ xs
without_last k [] n = ap (λ b. cond b [] (k ∷ [])) (eq-eqb k k refl)
without_last k (x ∷ xs) n = last_by k x xs (eqb_tells k x) (n x (inl refl)) (without_last k xs (λ j i. n j (inr i)))
