-- Crates above cite this module: a place behind a term is no variable of it.
use Rattle.std.proofs.Common.{◌≡◌, ℕ, suc, ◌≤◌, ◌<◌, ◌+◌, [], ◌∷◌, refl, arith, Bool, true, false, Some, nat_eq}
use Rattle.std.specs.Prelude.{if◌then◌else◌}
use Rattle.std.proofs.lemmas.Bool.Decides.{nat_tests}
use Rattle.fc_values.specs.Types.{ValueType, Declarations}
use Rattle.fc_nodes.specs.Terms.{Literal, Variable, Sense, Uid, NbrLink, Term, Terms, Plain, Apply, Nbr, Evolve, If, Let, NoMore, More, size, sizes}
use Rattle.fc_nodes.specs.Typing.{Scope, type_at, HasType, HaveTypes}
use Rattle.fc_nodes.specs.Variables.{occurs, occurs_in}

abbrev pub AllBelow : ℕ → Scope → Type 0
AllBelow k [] = Unit {0}
AllBelow k (b ∷ bs) = (b.0 < k) × AllBelow k bs

below_at : (k n : ℕ) (t : ValueType) (scope : Scope) → AllBelow k scope → type_at n scope ≡ Some t → n < k
below_at k n t [] h e = absurd cc
below_at k n t (b ∷ bs) h e = by_test (nat_eq b.0 n) refl e (below_at k n t bs h.1)
  where
    by_test : (c : Bool) → nat_eq b.0 n ≡ c → (if c then Some b.1 else type_at n bs) ≡ Some t → (type_at n bs ≡ Some t → n < k) → n < k
    by_test true q e f = let l = h.0 in let z : b.0 ≡ n = grind (arith, q, nat_tests) in omega (arith, l, z)
    by_test false q e f = f e

mutual
  pub not_behind : (D : Declarations) (k p : ℕ) (scope : Scope) (t : Term) → HasType D scope p t → AllBelow k scope → p + size t ≤ k → occurs k t ≡ false
  not_behind D k p scope (Plain t (Variable n)) ty h l = let b = below_at k n t scope h ty in grind (arith, b, nat_tests)
  not_behind D k p scope (Plain t (Literal v)) ty h l = refl
  not_behind D k p scope (Plain t (Sense i)) ty h l = refl
  not_behind D k p scope (Plain t Uid) ty h l = refl
  not_behind D k p scope (Plain t NbrLink) ty h l = refl
  not_behind D k p scope (Apply t o xs) ty h l = none_behind D k (suc p) scope xs ty.1 h (omega (arith, l))
  not_behind D k p scope (Nbr t a) ty h l = not_behind D k (suc p) scope a ty.3 h (omega (arith, l))
  not_behind D k p scope (Evolve t e a u) ty h l =
      let x = not_behind D k (suc p) scope a ty.4 h (omega (arith, l)) in let y = not_behind D k (suc p + size a) _ u ty.5 (omega (arith, l), h) (omega (arith, l)) in rw (x, y) refl
  not_behind D k p scope (If t c a b) ty h l =
      let x = not_behind D k (suc p) scope c ty.5 h (omega (arith, l)) in
      let y = not_behind D k (suc p + size c) scope a ty.6 h (omega (arith, l)) in
      let z = not_behind D k (suc p + size c + size a) scope b ty.7 h (omega (arith, l)) in
      rw (x, y, z) refl
  not_behind D k p scope (Let t a u) ty h l =
      let x = not_behind D k (suc p) scope a ty.1 h (omega (arith, l)) in let y = not_behind D k (suc p + size a) _ u ty.2 (omega (arith, l), h) (omega (arith, l)) in rw (x, y) refl

  pub none_behind : (D : Declarations) (k p : ℕ) (scope : Scope) (xs : Terms) → HaveTypes D scope p xs → AllBelow k scope → p + sizes xs ≤ k → occurs_in k xs ≡ false
  none_behind D k p scope NoMore ty h l = refl
  none_behind D k p scope (More t ts) ty h l =
      let x = not_behind D k p scope t ty.0 h (omega (arith, l)) in let y = none_behind D k (p + size t) scope ts ty.1 h (omega (arith, l)) in rw (x, y) refl
