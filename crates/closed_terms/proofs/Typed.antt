-- A well-typed term is one where its binders are counted from its root.
use Rattle.std.proofs.Common.{◌≡◌, ℕ, suc, ◌≤◌, ◌+◌, ◌-◌, [], ◌∷◌, refl, sym, ◌∙◌, subst, arith, Bool, true, false, nat_eq, if◌then◌else◌, Some}
use Rattle.std.proofs.lemmas.Bool.{eqb-true, eq-eqb, ne_eqb}
use Rattle.fc_values.specs.Types.{ValueType, Declarations}
use Rattle.fc_values.specs.BuiltinTypes.{HasRule}
use Rattle.fc_nodes.specs.Terms.{Literal, Variable, Sense, Uid, NbrLink, Term, Terms, Plain, Apply, Nbr, Evolve, If, Let, NoMore, More, term_type, size}
use Rattle.fc_nodes.specs.Typing.{Scope, type_at, evolving_type, types_of, HasType, HaveTypes}
use Rattle.closed_terms.specs.Parts.{lowered, all_lowered}
use Rattle.closed_terms.proofs.Shifting.{same_size}

pub same_type : (k : ℕ) (u : Term) → term_type (lowered k u) ≡ term_type u
same_type k (Plain t l) = refl
same_type k (Apply t o xs) = refl
same_type k (Nbr t a) = refl
same_type k (Evolve t e a b) = refl
same_type k (If t c a b) = refl
same_type k (Let t a b) = refl

same_types : (k : ℕ) (xs : Terms) → types_of (all_lowered k xs) ≡ types_of xs
same_types k NoMore = refl
same_types k (More x xs) = let e = same_type k x in let es = same_types k xs in cc

module _ (Dc : Declarations) (k : ℕ) where
  abbrev lowered_scope : Scope → Scope
  lowered_scope [] = []
  lowered_scope (b ∷ bs) = (b.0 - k, b.1) ∷ lowered_scope bs

  -- the binders are within the term
  abbrev pub Within : Scope → Type 0
  Within [] = Unit {0}
  Within (b ∷ bs) = (k ≤ b.0) × Within bs

  within : (n : ℕ) (t : ValueType) (bs : Scope) → Within bs → type_at n bs ≡ Some t → k ≤ n
  within n t [] w q = absurd cc
  within n t (b ∷ bs) w q = by_test (nat_eq b.0 n) refl q (within n t bs w.1)
    where
      by_test : (c : Bool) → nat_eq b.0 n ≡ c → (if c then Some b.1 else type_at n bs) ≡ Some t → (type_at n bs ≡ Some t → k ≤ n) → k ≤ n
      by_test true y q ih = let z = eqb-true b.0 n y in let l = w.0 in omega (arith, z, l)
      by_test false y q ih = ih q

  found : (n : ℕ) (t : ValueType) (bs : Scope) → Within bs → k ≤ n → type_at n bs ≡ Some t → type_at (n - k) (lowered_scope bs) ≡ Some t
  found n t [] w h q = absurd cc
  found n t (b ∷ bs) w h q = by_test (nat_eq b.0 n) refl q (found n t bs w.1 h)
    where
      by_test : (c : Bool) → nat_eq b.0 n ≡ c → (if c then Some b.1 else type_at n bs) ≡ Some t → (type_at n bs ≡ Some t → type_at (n - k) (lowered_scope bs) ≡ Some t)
          → (if nat_eq (b.0 - k) (n - k) then Some b.1 else type_at (n - k) (lowered_scope bs)) ≡ Some t
      by_test true y q ih = let z = eqb-true b.0 n y in let u = eq-eqb (b.0 - k) (n - k) (omega (arith, z)) in rw u q
      by_test false y q ih =
          let l = w.0 in
          let u = ne_eqb (b.0 - k) (n - k) (λ f. let z = eq-eqb b.0 n (omega (arith, f, l, h)) in absurd cc) in
          rw u (ih q)

  mutual
    pub typed : (u : Term) (i j : ℕ) → j ≡ k + i → (bs : Scope) → Within bs → HasType Dc bs j u → HasType Dc (lowered_scope bs) i (lowered k u)
    typed (Plain t (Literal v)) i j e bs w h = h
    typed (Plain t (Variable n)) i j e bs w h = found n t bs w (within n t bs w h) h
    typed (Plain t (Sense x)) i j e bs w h = h
    typed (Plain t Uid) i j e bs w h = h
    typed (Plain t NbrLink) i j e bs w h = h
    typed (Apply t o xs) i j e bs w h = (subst (λ ts. HasRule o ts t) (sym (same_types k xs)) h.0, all_typed xs (suc i) (suc j) (omega (arith, e)) bs w h.1)
    typed (Nbr t a) i j e bs w h = (h.0, h.1, same_type k a ∙ h.2, typed a (suc i) (suc j) (omega (arith, e)) bs w h.3)
    typed (Evolve t v a b) i j e bs w h =
        let n = same_size k a in
        let q : j - k ≡ i = omega (arith, e) in (
          h.0,
          h.1,
          same_type k a ∙ h.2,
          same_type k b ∙ h.3,
          typed a (suc i) (suc j) (omega (arith, e)) bs w h.4,
          subst (λ x. HasType Dc ((x, evolving_type v h.0) ∷ lowered_scope bs) (suc i + size (lowered k a)) (lowered k b)) q
              (typed b (suc i + size (lowered k a)) (suc j + size a) (omega (arith, e, n)) ((j, evolving_type v h.0) ∷ bs) (omega (arith, e), w) h.5),
        )
    typed (If t c a b) i j e bs w h =
        let m = same_size k c in
        let n = same_size k a in (
          h.0,
          h.1,
          same_type k c ∙ h.2,
          same_type k a ∙ h.3,
          same_type k b ∙ h.4,
          typed c (suc i) (suc j) (omega (arith, e)) bs w h.5,
          typed a (suc i + size (lowered k c)) (suc j + size c) (omega (arith, e, m)) bs w h.6,
          typed b (suc i + size (lowered k c) + size (lowered k a)) (suc j + size c + size a) (omega (arith, e, m, n)) bs w h.7,
        )
    typed (Let t a b) i j e bs w h =
        let n = same_size k a in
        let q : j - k ≡ i = omega (arith, e) in (
          h.0 ∙ sym (same_type k b),
          typed a (suc i) (suc j) (omega (arith, e)) bs w h.1,
          subst (λ y. HasType Dc ((i, y) ∷ lowered_scope bs) (suc i + size (lowered k a)) (lowered k b)) (sym (same_type k a))
              (subst (λ x. HasType Dc ((x, term_type a) ∷ lowered_scope bs) (suc i + size (lowered k a)) (lowered k b)) q
              (typed b (suc i + size (lowered k a)) (suc j + size a) (omega (arith, e, n)) ((j, term_type a) ∷ bs) (omega (arith, e), w) h.2)),
        )

    all_typed : (xs : Terms) (i j : ℕ) → j ≡ k + i → (bs : Scope) → Within bs → HaveTypes Dc bs j xs → HaveTypes Dc (lowered_scope bs) i (all_lowered k xs)
    all_typed NoMore i j e bs w h = tt
    all_typed (More x xs) i j e bs w h =
        let n = same_size k x in
        (typed x i j e bs w h.0, all_typed xs (i + size (lowered k x)) (j + size x) (omega (arith, e, n)) bs w h.1)
