-- An element put in the place of that of its key among rising ones, or as one more.
use Rattle.std.proofs.Common.{◌≡◌, ℕ, suc, ◌+◌, ◌<◌, List, [], ◌∷◌, length, get_or, set, refl, sym, ◌∙◌, ap, arith, Bool, true, false, not, cond}
use Rattle.std.specs.List.{filter, prefix_len}
use Rattle.fc_values.specs.Lists.{insert_after}

module _ {X : Type 0} (before same : X → Bool) where
  -- elements that neither come before a key nor have it
  abbrev pub Later : List X → Type 0
  Later [] = Unit {0}
  Later (x ∷ xs) = (before x ≡ false) × (same x ≡ false) × Later xs

  -- elements that come before a key, then at most one that has it, then later ones
  abbrev pub Arranged : List X → Type 0
  Arranged [] = Unit {0}
  Arranged (x ∷ xs) = (before x ≡ true → same x ≡ false) × (before x ≡ false → Later xs) × Arranged xs

  pub later_kept : (xs : List X) → Later xs → filter (λ x. not (same x)) xs ≡ xs
  later_kept [] l = refl
  later_kept (x ∷ xs) l = rw l.1 (ap (λ ys. x ∷ ys) (later_kept xs l.2))

  later_put : (e : X) (xs : List X) → Later xs → insert_after before e xs ≡ e ∷ xs
  later_put e [] l = refl
  later_put e (x ∷ xs) l = rw l.0 refl

  abbrev PutThere : X → X → List X → Type 0
  PutThere e d xs = (k : ℕ) → k ≡ prefix_len before xs → k < length xs → same (get_or xs k d) ≡ true → set xs k e ≡ insert_after before e (filter (λ y. not (same y)) xs)

  pub put_there : (e d : X) (xs : List X) (at : ℕ) → Arranged xs → at ≡ prefix_len before xs → at < length xs → same (get_or xs at d) ≡ true
      → set xs at e ≡ insert_after before e (filter (λ x. not (same x)) xs)
  put_there e d [] at a p h t = absurd (omega arith)
  put_there e d (x ∷ xs) at a p h t = by_test (before x) refl p (λ k w l m. put_there e d xs k a.2 w l m)
    where
      by_test : (q : Bool) → before x ≡ q → at ≡ cond q (1 + prefix_len before xs) 0 → PutThere e d xs → set (x ∷ xs) at e ≡ insert_after before e (cond (not (same x)) (x ∷ filter (λ y. not (same y)) xs) (filter (λ y. not (same y)) xs))
      by_test true u v ih = further (prefix_len before xs) refl v
        where
          further : (k : ℕ) → k ≡ prefix_len before xs → at ≡ 1 + k → set (x ∷ xs) at e ≡ insert_after before e (cond (not (same x)) (x ∷ filter (λ y. not (same y)) xs) (filter (λ y. not (same y)) xs))
          further k w z =
              let s : at ≡ suc k = omega arith in
              rw (s, a.0 u, u) (ap (λ ys. x ∷ ys) (ih k w (omega arith) (rw s at t)))
      by_test false u v ih =
          let l = a.1 u in
          let s : same x ≡ true = rw v at t in
          rw (v, s) (sym (ap (insert_after before e) (later_kept xs l) ∙ later_put e xs l))

  abbrev NotThere : X → List X → Type 0
  NotThere d xs = (k : ℕ) → k ≡ prefix_len before xs → (k < length xs → same (get_or xs k d) ≡ true → ⊥) → filter (λ y. not (same y)) xs ≡ xs

  pub not_there : (d : X) (xs : List X) (at : ℕ) → Arranged xs → at ≡ prefix_len before xs → (at < length xs → same (get_or xs at d) ≡ true → ⊥) → filter (λ x. not (same x)) xs ≡ xs
  not_there d [] at a p h = refl
  not_there d (x ∷ xs) at a p h = by_test (before x) refl p (λ k w m. not_there d xs k a.2 w m)
    where
      by_test : (q : Bool) → before x ≡ q → at ≡ cond q (1 + prefix_len before xs) 0 → NotThere d xs → cond (not (same x)) (x ∷ filter (λ y. not (same y)) xs) (filter (λ y. not (same y)) xs) ≡ x ∷ xs
      by_test true u v ih = further (prefix_len before xs) refl v
        where
          further : (k : ℕ) → k ≡ prefix_len before xs → at ≡ 1 + k → cond (not (same x)) (x ∷ filter (λ y. not (same y)) xs) (filter (λ y. not (same y)) xs) ≡ x ∷ xs
          further k w z =
              let s : at ≡ suc k = omega arith in
              rw (a.0 u) (ap (λ ys. x ∷ ys) (ih k w (λ m t. h (omega arith) (rw s t))))
      by_test false u v ih = first (same x) refl
        where
          first : (q : Bool) → same x ≡ q → cond (not q) (x ∷ filter (λ y. not (same y)) xs) (filter (λ y. not (same y)) xs) ≡ x ∷ xs
          first true w = absurd (h (omega arith) (rw v w))
          first false w = ap (λ ys. x ∷ ys) (later_kept xs (a.1 u))
