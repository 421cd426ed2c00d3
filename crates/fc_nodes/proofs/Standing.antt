-- Crates above cite this module: at each place of a program stands the term there.
use Rattle.std.proofs.Common.{◌≡◌, ℕ, suc, ◌<◌, ◌≤◌, ◌+◌, ◌⊎◌, inl, inr, List, length, refl, sym, subst, arith, Bool, true, false, nat_eq, nat_lt}
use Rattle.std.proofs.lemmas.Bool.Decides.{nat_tests}
use Rattle.fc_nodes.specs.declared.nodes.Node.{Node}
use Rattle.fc_nodes.specs.Terms.{Term, Terms, Plain, Apply, Nbr, Evolve, If, Let, NoMore, More, size, sizes, term_at, Laid, AllLaid, WellFormed}
use Rattle.fc_nodes.specs.Places.{StandsAt}
use Rattle.fc_nodes.proofs.Places.{AllAbove, formed_above, laid_within}
use Rattle.fc_nodes.proofs.Kids.{laid_term}

pub below_or : (a b : ℕ) → (a < b) ⊎ (b ≤ a)
below_or a b = by_test (nat_lt a b) refl
  where
    by_test : (q : Bool) → nat_lt a b ≡ q → (a < b) ⊎ (b ≤ a)
    by_test true e = inl (grind (arith, e, nat_tests))
    by_test false e = inr (grind (arith, e, nat_tests))

-- at the place, or behind it
here_or : (q p : ℕ) → q ≤ p → (p ≡ q) ⊎ (suc q ≤ p)
here_or q p l = by_test (nat_eq p q) refl
  where
    by_test : (b : Bool) → nat_eq p q ≡ b → (p ≡ q) ⊎ (suc q ≤ p)
    by_test true e = inl (grind (arith, e, nat_tests))
    by_test false e = inr (grind (arith, e, l, nat_tests))

module _ (ns : List Node) (ab : AllAbove ns) (p : ℕ) where
  root : (u : Term) (q : ℕ) → Laid ns q u → p ≡ q → StandsAt ns p
  root u q l e = subst (StandsAt ns) (sym e) (record { within = laid_within ns q u l; laid = subst (Laid ns q) (sym (laid_term ns ab u q l)) l })

  choose : {A B : Type 0} → A ⊎ B → (A → StandsAt ns p) → (B → StandsAt ns p) → StandsAt ns p
  choose (inl k) f g = f k
  choose (inr k) f g = g k

  mutual
    inside : (u : Term) (q : ℕ) → Laid ns q u → q ≤ p → p < q + size u → StandsAt ns p
    inside (Plain t v) q l a b = root (Plain t v) q l (omega (arith, a, b))
    inside (Apply t o xs) q l a b = choose (here_or q p a) (root (Apply t o xs) q l) (λ c. inside_all xs (suc q) l.1 c (omega (arith, b)))
    inside (Nbr t u) q l a b = choose (here_or q p a) (root (Nbr t u) q l) (λ c. inside u (suc q) l.1 c (omega (arith, b)))
    inside (Evolve t e u v) q l a b = choose (here_or q p a) (root (Evolve t e u v) q l) (λ c.
        choose (below_or p (suc q + size u)) (inside u (suc q) l.1 c) (λ k. inside v (suc q + size u) l.2 k (omega (arith, b))))
    inside (If t w u v) q l a b = choose (here_or q p a) (root (If t w u v) q l) (λ c.
        choose (below_or p (suc q + size w)) (inside w (suc q) l.1 c) (λ k.
        choose (below_or p (suc q + size w + size u)) (inside u (suc q + size w) l.2 k) (λ j. inside v (suc q + size w + size u) l.3 j (omega (arith, b)))))
    inside (Let t u v) q l a b = choose (here_or q p a) (root (Let t u v) q l) (λ c.
        choose (below_or p (suc q + size u)) (inside u (suc q) l.1 c) (λ k. inside v (suc q + size u) l.2 k (omega (arith, b))))

    inside_all : (xs : Terms) (q : ℕ) → AllLaid ns q xs → q ≤ p → p < q + sizes xs → StandsAt ns p
    inside_all NoMore q l a b = absurd (omega (arith, a, b))
    inside_all (More x xs) q l a b = choose (below_or p (q + size x)) (inside x q l.0 a) (λ k. inside_all xs (q + size x) l.1 k (omega (arith, b)))

pub each_stands : (ns : List Node) → WellFormed ns → (p : ℕ) → p < length ns → StandsAt ns p
each_stands ns w p l = let e = w.whole in inside ns (formed_above ns w) p (term_at ns 0) 0 w.laid (omega arith) (omega (arith, l, e))
