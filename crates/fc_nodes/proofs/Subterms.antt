-- Crates above cite this module: the part at a place of a program's term is the term of the node there.
use Rattle.std.proofs.Common.{◌≡◌, ℕ, zero, suc, ◌<◌, ◌≤◌, ◌+◌, ◌-◌, ◌⊎◌, inl, inr, List, length, refl, sym, ◌∙◌, ap, arith, Bool, true, false, nat_lt}
use Rattle.std.specs.Prelude.{if◌then◌else◌}
use Rattle.std.proofs.lemmas.Bool.Decides.{nat_tests}
use Rattle.fc_nodes.specs.declared.nodes.Node.{Node}
use Rattle.fc_nodes.specs.Terms.{Term, Terms, Plain, Apply, Nbr, Evolve, If, Let, NoMore, More, size, sizes, term_at, term_to, Laid, AllLaid, WellFormed}
use Rattle.fc_nodes.specs.Subterms.{no_subterm, subterm_at, subterm_in}
use Rattle.fc_nodes.proofs.Places.{AllAbove, formed_above}
use Rattle.fc_nodes.proofs.Kids.{laid_term}
use Rattle.fc_nodes.proofs.Standing.{below_or}

-- before a place or from it on
either : (q k : ℕ) (x y z : Term) → (q < k → x ≡ z) → (k ≤ q → y ≡ z) → (if nat_lt q k then x else y) ≡ z
either q k x y z f g = by_test (nat_lt q k) refl
  where
    by_test : (b : Bool) → nat_lt q k ≡ b → (if b then x else y) ≡ z
    by_test true e = f (grind (arith, e, nat_tests))
    by_test false e = g (grind (arith, e, nat_tests))

module _ (ns : List Node) (ab : AllAbove ns) where
  mutual
    part_laid : (u : Term) (p q : ℕ) → Laid ns p u → q < size u → subterm_at q u ≡ term_at ns (p + q)
    part_laid u p zero l h = sym (laid_term ns ab u p l) ∙ ap (term_at ns) (omega arith)
    part_laid (Plain t v) p (suc q) l h = absurd (omega (arith, h))
    part_laid (Apply t o xs) p (suc q) l h = parts_laid xs (suc p) q l.1 (omega (arith, h)) ∙ ap (term_at ns) (omega arith)
    part_laid (Nbr t a) p (suc q) l h = part_laid a (suc p) q l.1 (omega (arith, h)) ∙ ap (term_at ns) (omega arith)
    part_laid (Evolve t e a b) p (suc q) l h =
        either q (size a) _ _ _ (λ k. part_laid a (suc p) q l.1 k ∙ ap (term_at ns) (omega arith))
        (λ k. part_laid b (suc p + size a) (q - size a) l.2 (omega (arith, h, k)) ∙ ap (term_at ns) (omega (arith, k)))
    part_laid (If t c a b) p (suc q) l h =
        either q (size c) _ _ _ (λ k. part_laid c (suc p) q l.1 k ∙ ap (term_at ns) (omega arith)) (λ k.
        either (q - size c) (size a) _ _ _
        (λ j. part_laid a (suc p + size c) (q - size c) l.2 j ∙ ap (term_at ns) (omega (arith, k)))
        (λ j. part_laid b (suc p + size c + size a) (q - size c - size a) l.3 (omega (arith, h, k, j)) ∙ ap (term_at ns) (omega (arith, k, j))))
    part_laid (Let t a b) p (suc q) l h =
        either q (size a) _ _ _ (λ k. part_laid a (suc p) q l.1 k ∙ ap (term_at ns) (omega arith))
        (λ k. part_laid b (suc p + size a) (q - size a) l.2 (omega (arith, h, k)) ∙ ap (term_at ns) (omega (arith, k)))

    parts_laid : (xs : Terms) (p q : ℕ) → AllLaid ns p xs → q < sizes xs → subterm_in q xs ≡ term_at ns (p + q)
    parts_laid NoMore p q l h = absurd (omega (arith, h))
    parts_laid (More x xs) p q l h =
        either q (size x) _ _ _ (part_laid x p q l.0)
        (λ k. parts_laid xs (p + size x) (q - size x) l.1 (omega (arith, h, k)) ∙ ap (term_at ns) (omega (arith, k)))

mutual
  no_part_past : (u : Term) (q : ℕ) → size u ≤ q → subterm_at q u ≡ no_subterm
  no_part_past (Plain t v) (suc q) h = refl
  no_part_past (Apply t o xs) (suc q) h = no_part_in xs q (omega (arith, h))
  no_part_past (Nbr t a) (suc q) h = no_part_past a q (omega (arith, h))
  no_part_past (Evolve t e a b) (suc q) h =
      either q (size a) _ _ _ (λ k. absurd (omega (arith, h, k))) (λ k. no_part_past b (q - size a) (omega (arith, h)))
  no_part_past (If t c a b) (suc q) h =
      either q (size c) _ _ _ (λ k. absurd (omega (arith, h, k))) (λ k.
      either (q - size c) (size a) _ _ _ (λ j. absurd (omega (arith, h, j)))
      (λ j. no_part_past b (q - size c - size a) (omega (arith, h))))
  no_part_past (Let t a b) (suc q) h =
      either q (size a) _ _ _ (λ k. absurd (omega (arith, h, k))) (λ k. no_part_past b (q - size a) (omega (arith, h)))
  no_part_past (Plain t v) zero h = absurd (omega (arith, h))
  no_part_past (Apply t o xs) zero h = absurd (omega (arith, h))
  no_part_past (Nbr t a) zero h = absurd (omega (arith, h))
  no_part_past (Evolve t e a b) zero h = absurd (omega (arith, h))
  no_part_past (If t c a b) zero h = absurd (omega (arith, h))
  no_part_past (Let t a b) zero h = absurd (omega (arith, h))

  no_part_in : (xs : Terms) (q : ℕ) → sizes xs ≤ q → subterm_in q xs ≡ no_subterm
  no_part_in NoMore q h = refl
  no_part_in (More x xs) q h =
      either q (size x) _ _ _ (λ k. no_part_past x q (omega (arith, h))) (λ k. no_part_in xs (q - size x) (omega (arith, h)))

none_to : (ns : List Node) (k q : ℕ) → k ≡ 0 → term_to k ns q ≡ no_subterm
unfolding term_to
none_to ns zero q e = refl
none_to ns (suc k) q e = absurd (omega (arith, e))

past_the_nodes : (ns : List Node) (q : ℕ) → length ns ≤ q → term_at ns q ≡ no_subterm
unfolding term_at
past_the_nodes ns q h = none_to ns (length ns - q) q (omega (arith, h))

pub subterm_is : (ns : List Node) → WellFormed ns → (q : ℕ) → subterm_at q (term_at ns 0) ≡ term_at ns q
subterm_is ns w q = by_place (below_or q (length ns))
  where
    by_place : (q < length ns) ⊎ (length ns ≤ q) → subterm_at q (term_at ns 0) ≡ term_at ns q
    by_place (inl h) = let e = w.whole in part_laid ns (formed_above ns w) (term_at ns 0) 0 q w.laid (omega (arith, e, h)) ∙ ap (term_at ns) (omega arith)
    by_place (inr h) = let e = w.whole in no_part_past (term_at ns 0) q (omega (arith, e, h)) ∙ sym (past_the_nodes ns q h)
