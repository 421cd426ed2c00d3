-- Crates above cite this module: the binders in scope while words are added.
use Rattle.std.proofs.Common.{◌≡◌, ℕ, ◌≤◌, List, refl, ◌∙◌, ap, arith}
use Rattle.std.proofs.Common.{Bool}
use Rattle.fc_values.specs.Types.{LocalType, ValueType, TypeLocal, TypeField}
use Rattle.fc_values.specs.BuiltinTypes.{lifted, inner, is_field}
use Rattle.scope_columns.specs.declared.scopes.Scope.{Scope}
use Rattle.scope_columns.specs.declared.scopes.Scope.TheVariants as scope
use Rattle.scope_columns.specs.Words.{SameBelow}
use Rattle.scope_columns.specs.Scopes.{devices_in, binder_type, vars_in, StandBelow}
use Rattle.scope_columns.proofs.WordSteps.{value_stays}

-- a type, from its local type and whether it is one of fields
pub lifted_again : (t : ValueType) → lifted (is_field t) (inner t) ≡ t
lifted_again (TypeLocal t) = refl
lifted_again (TypeField t) = refl

-- binders whose values stay
pub vars_stay : (d n : ℕ) (xs ys : List ℕ) (s : Scope) → StandBelow d n s → SameBelow n xs ys
    → vars_in d ys s ≡ vars_in d xs s
vars_stay d n xs ys scope.Empty h same = refl
vars_stay d n xs ys (scope.Bind' b p rest) h same =
    let first = value_stays (binder_type b) (devices_in d b.env.now) xs ys n b.at same h.0 in
    let others = vars_stay d n xs ys rest h.1 same in
    rw (first, others) refl

pub below_more : (d n m : ℕ) (s : Scope) → n ≤ m → StandBelow d n s → StandBelow d m s
below_more d n m scope.Empty l h = tt
below_more d n m (scope.Bind' b p rest) l h = (omega (arith, l, h.0), below_more d n m rest l h.1)

-- the type of a binder for a value of a type
pub bound_type : {t : ValueType} {f : Bool} {u : LocalType} → f ≡ is_field t → u ≡ inner t → lifted f u ≡ t
bound_type {t} {f} {u} e g = ap (λ b. lifted b u) e ∙ ap (lifted (is_field t)) g ∙ lifted_again t
