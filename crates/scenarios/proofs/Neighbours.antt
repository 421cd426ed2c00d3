-- The neighbours of the devices of a ring, read off its links.
use Rattle.std.proofs.Common.{ℕ, zero, suc, ◌≡◌, ◌+◌, ◌-◌, ◌<◌, ◌≤◌, List, [], ◌∷◌, Bool, true, false, nat_eq, refl, sym, ◌∙◌, ap, ap₂, subst, arith}
use Rattle.std.proofs.lemmas.Bool.{eqb-true, eqb-false, eq-eqb, ne_eqb}
use Rattle.topology.specs.Networks.{Edge, near_in}
use Rattle.scenarios.specs.Rings.{chain, edge_between, ring_links}

-- ---- one link

from : (a b : ℕ) (ls : List Edge) → near_in a (edge_between a b ∷ ls) ≡ (b, 1) ∷ near_in a ls
from a b ls = rw (eq-eqb a a refl) refl

to : (a b : ℕ) (ls : List Edge) → a < b → near_in b (edge_between a b ∷ ls) ≡ (a, 1) ∷ near_in b ls
to a b ls h = rw (ne_eqb a b (λ e. absurd (omega arith))) (rw (eq-eqb b b refl) refl)

other : (d a b : ℕ) (ls : List Edge) → (a ≡ d → ⊥) → (b ≡ d → ⊥) → near_in d (edge_between a b ∷ ls) ≡ near_in d ls
other d a b ls u v = rw (ne_eqb a d u) (rw (ne_eqb b d v) refl)

-- ---- links in a row

outside : (d first n : ℕ) → (first ≤ d → d ≤ first + n → ⊥) → near_in d (chain first n) ≡ []
outside d first zero h = refl
outside d first (suc n) h =
    other d first (first + 1) (chain (suc first) n) (λ e. h (omega arith) (omega arith)) (λ e. h (omega arith) (omega arith))
    ∙ outside d (suc first) n (λ low high. h (omega arith) (omega arith))

starting : (first n : ℕ) → near_in first (chain first (suc n)) ≡ (first + 1, 1) ∷ []
starting first n = from first (first + 1) (chain (suc first) n)
    ∙ ap (λ ns. (first + 1, 1) ∷ ns) (outside first (suc first) n (λ low high. absurd (omega arith)))

ending : (d first n : ℕ) → first + n + 1 ≡ d → near_in d (chain first (suc n)) ≡ (d - 1, 1) ∷ []
ending d first zero h =
    let e : first + 1 ≡ d = omega arith in
    let back : first ≡ first + 1 - 1 = omega arith in
    subst (λ k. near_in k (chain first 1) ≡ (k - 1, 1) ∷ []) e
    (to first (first + 1) [] (omega arith) ∙ ap (λ k. (k, 1) ∷ []) back)
ending d first (suc n) h =
    other d first (first + 1) (chain (suc first) (suc n)) (λ e. absurd (omega arith)) (λ e. absurd (omega arith))
    ∙ ending d (suc first) n (omega arith)

between : (d first n : ℕ) → first < d → d < first + n → near_in d (chain first n) ≡ (d - 1, 1) ∷ (d + 1, 1) ∷ []
between d first zero low high = absurd (omega arith)
between d first (suc zero) low high = absurd (omega arith)
between d first (suc (suc n)) low high = by_test (nat_eq d (suc first)) refl (between d (suc first) (suc n))
  where
    by_test : (q : Bool) → nat_eq d (suc first) ≡ q
        → (suc first < d → d < suc first + suc n → near_in d (chain (suc first) (suc n)) ≡ (d - 1, 1) ∷ (d + 1, 1) ∷ [])
        → near_in d (chain first (suc (suc n))) ≡ (d - 1, 1) ∷ (d + 1, 1) ∷ []
    by_test true e rest =
        let one : first + 1 ≡ suc first = omega arith in
        let back : first ≡ first + 1 - 1 = omega arith in
        subst (λ k. near_in k (chain first (suc (suc n))) ≡ (k - 1, 1) ∷ (k + 1, 1) ∷ []) (sym (eqb-true d (suc first) e))
        (subst (λ k. near_in k (chain first (suc (suc n))) ≡ (k - 1, 1) ∷ (k + 1, 1) ∷ []) one
        (to first (first + 1) (chain (suc first) (suc n)) (omega arith)
        ∙ ap₂ (λ k ns. (k, 1) ∷ ns) back (next (first + 1) (sym one))))
      where
        next : (k : ℕ) → suc first ≡ k → near_in k (chain (suc first) (suc n)) ≡ (k + 1, 1) ∷ []
        next k e = subst (λ k. near_in k (chain (suc first) (suc n)) ≡ (k + 1, 1) ∷ []) e (starting (suc first) n)
    by_test false e rest =
        let apart = eqb-false d (suc first) e in
        other d first (first + 1) (chain (suc first) (suc n)) (λ e. absurd (omega arith)) (λ e. apart (omega arith))
        ∙ rest (omega (arith, apart)) (omega arith)

-- ---- a ring

module _ (count : ℕ) (low : 3 ≤ count) where
  abbrev row : ℕ
  row = count - 3

  -- the links of a ring, with at least one in the row
  links_are : ring_links count ≡ edge_between 0 1 ∷ edge_between 0 (count - 1) ∷ chain 1 (suc row)
  links_are =
      let many : count - 2 ≡ suc row = omega (arith, low) in
      ap (λ k. edge_between 0 1 ∷ edge_between 0 (count - 1) ∷ chain 1 k) many

  pub near_first : near_in 0 (ring_links count) ≡ (1, 1) ∷ (count - 1, 1) ∷ []
  near_first = from 0 1 (edge_between 0 (count - 1) ∷ chain 1 (count - 2))
      ∙ ap (λ ns. (1, 1) ∷ ns) (from 0 (count - 1) (chain 1 (count - 2)))
      ∙ ap (λ ns. (1, 1) ∷ (count - 1, 1) ∷ ns) (outside 0 1 (count - 2) (λ low high. absurd (omega arith)))

  pub near_inner : (d : ℕ) → 0 < d → d + 1 < count → near_in d (ring_links count) ≡ (d - 1, 1) ∷ (d + 1, 1) ∷ []
  near_inner d above below = by_test (nat_eq d 1) refl
    where
      last_apart : count - 1 ≡ d → ⊥
      last_apart e = absurd (omega (arith, below))

      by_test : (q : Bool) → nat_eq d 1 ≡ q → near_in d (ring_links count) ≡ (d - 1, 1) ∷ (d + 1, 1) ∷ []
      by_test true e =
          let is : 1 ≡ d = sym (eqb-true d 1 e) in
          ap (near_in d) links_are
          ∙ subst (λ k. near_in k (edge_between 0 1 ∷ edge_between 0 (count - 1) ∷ chain 1 (suc row)) ≡ (k - 1, 1) ∷ (k + 1, 1) ∷ []) is
          (to 0 1 (edge_between 0 (count - 1) ∷ chain 1 (suc row)) (omega arith)
          ∙ ap (λ ns. (0, 1) ∷ ns) (other 1 0 (count - 1) (chain 1 (suc row)) (λ e. absurd (omega arith)) (λ e. absurd (omega (arith, low))))
          ∙ ap (λ ns. (0, 1) ∷ ns) (starting 1 row))
      by_test false e =
          let apart = eqb-false d 1 e in
          other d 0 1 (edge_between 0 (count - 1) ∷ chain 1 (count - 2)) (λ e. absurd (omega (arith, above))) (λ e. apart (sym e))
          ∙ other d 0 (count - 1) (chain 1 (count - 2)) (λ e. absurd (omega (arith, above))) last_apart
          ∙ between d 1 (count - 2) (omega (arith, above, apart)) (omega (arith, below))

  pub near_last : near_in (count - 1) (ring_links count) ≡ (0, 1) ∷ (count - 2, 1) ∷ []
  near_last =
      let back : count - 1 - 1 ≡ count - 2 = omega arith in
      ap (near_in (count - 1)) links_are
      ∙ other (count - 1) 0 1 (edge_between 0 (count - 1) ∷ chain 1 (suc row)) (λ e. absurd (omega (arith, low))) (λ e. absurd (omega (arith, low)))
      ∙ to 0 (count - 1) (chain 1 (suc row)) (omega (arith, low))
      ∙ ap (λ ns. (0, 1) ∷ ns) (ending (count - 1) 1 row (omega (arith, low)))
      ∙ ap (λ k. (0, 1) ∷ (k, 1) ∷ []) back

  pub near_none : (d : ℕ) → count ≤ d → near_in d (ring_links count) ≡ []
  near_none d behind =
      other d 0 1 (edge_between 0 (count - 1) ∷ chain 1 (count - 2)) (λ e. absurd (omega (arith, low, behind))) (λ e. absurd (omega (arith, low, behind)))
      ∙ other d 0 (count - 1) (chain 1 (count - 2)) (λ e. absurd (omega (arith, low, behind))) (λ e. absurd (omega (arith, low, behind)))
      ∙ outside d 1 (count - 2) (λ first last. absurd (omega (arith, low, behind)))
