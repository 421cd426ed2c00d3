-- A table that grows by the values of rising devices.
use Rattle.std.proofs.Common.{◌≡◌, ℕ, zero, suc, ◌+◌, ◌<◌, ◌≤◌, List, [], ◌∷◌, ◌++◌, length, get_or, take, map, replicate, refl, sym, ◌∙◌, ap, subst, arith, Bool, true, false, nat_eq}
use Rattle.std.specs.List.{AllWithin}
use Rattle.std.proofs.lemmas.Bool.{eqb-true, eqb-false}
use Rattle.fc_values.specs.Fields.{Rises}
use Rattle.fc_values.proofs.Rising.{rises_at}
use Rattle.walks.proofs.Fixed.{number_get, numbers_length}

front : (us vs : List ℕ) (i : ℕ) → i < length us → get_or (us ++ vs) i 0 ≡ get_or us i 0
front [] vs i l = absurd (omega arith)
front (u ∷ us) vs zero l = refl
front (u ∷ us) vs (suc i) l = front us vs i (omega arith)

last : (us : List ℕ) (s : ℕ) → get_or (us ++ s ∷ []) (length us) 0 ≡ s
last [] s = refl
last (u ∷ us) s = last us s

longer : (us : List ℕ) (s : ℕ) → length (us ++ s ∷ []) ≡ suc (length us)
longer [] s = refl
longer (u ∷ us) s = ap suc (longer us s)

take_whole : (n : ℕ) (vs : List ℕ) → length vs ≤ n → take n vs ≡ vs
take_whole zero [] l = refl
take_whole zero (v ∷ vs) l = absurd (omega arith)
take_whole (suc n) [] l = refl
take_whole (suc n) (v ∷ vs) l = ap (λ us. v ∷ us) (take_whole n vs (omega arith))

module _ (Q : ℕ × ℕ → ℕ → Type 0) (xs : List (ℕ × ℕ)) (vs us ws : List ℕ) (i d s m : ℕ) (rises : Rises (map (λ (x : ℕ × ℕ). x.0) xs)) (inside : i < length xs)
    (is : (get_or xs i (0, 0)).0 ≡ d) (filled : us ≡ take d vs ++ replicate m 0) (long : length us ≡ d) (pushed : ws ≡ us ++ s ∷ [])
    (short : AllWithin (λ (x : ℕ × ℕ). length vs ≤ x.0) xs i (length xs)) where
  brief : length vs ≤ d
  brief = let a = short i (0, 0) (omega arith) inside in omega arith

  kept : (e : ℕ) → e < length vs → get_or ws e 0 ≡ get_or vs e 0
  kept e l =
      let q : us ≡ vs ++ replicate m 0 = subst (λ ys. us ≡ ys ++ replicate m 0) (take_whole d vs brief) filled in
      let b = brief in
      ap (λ ys. get_or ys e 0) pushed ∙ front us (s ∷ []) e (omega arith) ∙ ap (λ ys. get_or ys e 0) q ∙ front vs (replicate m 0) e l

  there : get_or ws d 0 ≡ s
  there = ap (λ ys. get_or ys d 0) pushed ∙ ap (λ n. get_or (us ++ s ∷ []) n 0) (sym long) ∙ last us s

  long_new : length ws ≡ suc d
  long_new = ap length pushed ∙ longer us s ∙ ap suc long

  pub more_values : ((x : ℕ × ℕ) → x ≡ get_or xs i x → Q x s) → AllWithin (λ (x : ℕ × ℕ). (x.0 < length vs) × Q x (get_or vs x.0 0)) xs 0 i
      → AllWithin (λ (x : ℕ × ℕ). (x.0 < length ws) × Q x (get_or ws x.0 0)) xs 0 (i + 1)
  more_values q a k x z l = by_test (nat_eq k i) refl
    where
      same : (ys : List (ℕ × ℕ)) (j : ℕ) (y : ℕ × ℕ) → j < length ys → get_or ys j y ≡ get_or ys j (get_or ys j y)
      same [] j y n = absurd (omega arith)
      same (e ∷ ys) zero y n = refl
      same (e ∷ ys) (suc j) y n = same ys j y (omega arith)

      by_test : (p : Bool) → nat_eq k i ≡ p → ((get_or xs k x).0 < length ws) × Q (get_or xs k x) (get_or ws (get_or xs k x).0 0)
      by_test true e =
          let n = eqb-true k i e in
          let f : (get_or xs k x).0 ≡ d = ap (λ j. (get_or xs j x).0) n ∙ sym (number_get xs i x inside) ∙ number_get xs i (0, 0) inside ∙ is in
          let g = long_new in
          (omega arith, subst (λ v. Q (get_or xs k x) v) (sym (ap (λ j. get_or ws j 0) f ∙ there)) (q (get_or xs k x) (subst (λ j. get_or xs k x ≡ get_or xs j (get_or xs k x)) n (same xs k x (omega arith)))))
      by_test false e =
          let n = eqb-false k i e in
          let h = a k x (omega arith) (omega (arith, n)) in
          let g = long_new in
          let b = brief in
          let u = h.0 in
          (omega arith, subst (λ v. Q (get_or xs k x) v) (sym (kept (get_or xs k x).0 u)) h.1)

  pub more_short : AllWithin (λ (x : ℕ × ℕ). length ws ≤ x.0) xs (i + 1) (length xs)
  more_short k x l n =
      let a = rises_at (map (λ (x : ℕ × ℕ). x.0) xs) rises i k (omega arith) (omega (arith, numbers_length xs)) in
      let b = number_get xs k x n in
      let c = number_get xs i (0, 0) inside in
      let g = long_new in
      omega arith
