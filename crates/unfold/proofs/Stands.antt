-- The names in scope stand for binders of the nodes around.
use Rattle.std.proofs.Common.{◌≡◌, refl, ℕ, suc, ◌<◌, ◌≤◌, arith, Bool, true, false, cond, nat_eq, List, [], ◌∷◌, ◌++◌, map, Option, Some}
use Rattle.std.specs.Prelude.{bytes_eq}
use Rattle.std.proofs.lemmas.Bool.{eqb-true, eqb-false}
use Rattle.fc_values.specs.Types.{ValueType, Declarations}
use Rattle.fc_syntax.specs.Terms.{Parameter}
use Rattle.fc_types.specs.Before.{type_in}
use Rattle.fc_nodes.specs.Terms.{term_type}
use Rattle.fc_nodes.specs.Typing.{Scope as Places, type_at, HasType}
use Rattle.unfold.specs.Unfolding.{Binder, NamesInScope, binder_of, variable_term}

abbrev pub forget_one : Binder → Parameter
forget_one b = record { name = b.name; type = b.type }

abbrev pub forget : NamesInScope → List Parameter
forget scope = map forget_one scope

-- each binder in scope stands before the place, and around it
abbrev pub Stand : NamesInScope → Places → ℕ → Type 0
Stand [] N p = Unit {0}
Stand (b ∷ scope) N p = (b.place < p) × (type_at b.place N ≡ Some b.type) × Stand scope N p

pub stand_later : (scope : NamesInScope) (N : Places) (p q : ℕ) → p ≤ q → Stand scope N p → Stand scope N q
stand_later [] N p q l h = tt
stand_later (b ∷ scope) N p q l h = let k = h.0 in (omega arith, h.1, stand_later scope N p q l h.2)

past_binder : (n p : ℕ) (N : Places) (s t : ValueType) → n < p → type_at n N ≡ Some t → type_at n ((p, s) ∷ N) ≡ Some t
past_binder n p N s t l h = go (nat_eq p n) refl
  where
    go : (b : Bool) → nat_eq p n ≡ b → cond b (Some s) (type_at n N) ≡ Some t
    go true e = let q : p ≡ n = eqb-true p n e in absurd (omega arith)
    go false e = h

-- one binder more around
pub stand_under : (scope : NamesInScope) (N : Places) (p q : ℕ) (s : ValueType) → suc p ≤ q → Stand scope N p → Stand scope ((p, s) ∷ N) q
stand_under [] N p q s l h = tt
stand_under (b ∷ scope) N p q s l h = let k = h.0 in (omega arith, past_binder b.place p N s b.type h.0 h.1, stand_under scope N p q s l h.2)

own_place : (p : ℕ) (N : Places) (s : ValueType) → type_at p ((p, s) ∷ N) ≡ Some s
own_place p N s = go (nat_eq p p) refl
  where
    go : (b : Bool) → nat_eq p p ≡ b → cond b (Some s) (type_at p N) ≡ Some s
    go true e = refl
    go false e = absurd (eqb-false p p e refl)

-- the innermost binder
pub stand_bound : (x : List ℕ) (scope : NamesInScope) (N : Places) (p q : ℕ) (s : ValueType) → suc p ≤ q → Stand scope N p →
    Stand (record { name = x; place = p; type = s } ∷ scope) ((p, s) ∷ N) q
stand_bound x scope N p q s l h = (omega arith, own_place p N s, stand_under scope N p q s l h)

pub stand_given : (x : List ℕ) (scope : NamesInScope) (N : Places) (p q : ℕ) (s : ValueType) → suc p ≤ q → Stand scope N p →
    Stand (scope ++ record { name = x; place = p; type = s } ∷ []) ((p, s) ∷ N) q
stand_given x [] N p q s l h = (omega arith, own_place p N s, tt)
stand_given x (b ∷ scope) N p q s l h = let k = h.0 in (omega arith, past_binder b.place p N s b.type h.0 h.1, stand_given x scope N p q s l h.2)

-- a variable has the type of its binder
pub variable_typed : (D : Declarations) (x : List ℕ) (scope : NamesInScope) (N : Places) (p : ℕ) (t : ValueType) → Stand scope N p → type_in x (forget scope) ≡ Some t →
    HasType D N p (variable_term (binder_of x scope)) × (term_type (variable_term (binder_of x scope)) ≡ t)
variable_typed D x [] N p t h e = absurd cc
variable_typed D x (b ∷ scope) N p t h e = go (bytes_eq x b.name) e (binder_of x scope) (λ f. variable_typed D x scope N p t h.2 f)
  where
    go : (c : Bool) → cond c (Some b.type) (type_in x (forget scope)) ≡ Some t → (o : Option Binder) →
        (type_in x (forget scope) ≡ Some t → HasType D N p (variable_term o) × (term_type (variable_term o) ≡ t)) →
        HasType D N p (variable_term (cond c (Some b) o)) × (term_type (variable_term (cond c (Some b) o)) ≡ t)
    go true e o f = (h.1, cc)
    go false e o f = f e
