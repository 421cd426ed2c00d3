-- Operators make nothing of no arguments, nor of four or more.
use Rattle.std.proofs.Common.{◌≡◌, ℕ, ◌<◌, ◌≤◌, List, [], ◌∷◌, length, arith}
use Rattle.fc_values.specs.declared.builtins.Builtin.{Builtin}
use Rattle.value_bounds.specs.declared.bounds.BoundRef.{BoundRef}
use Rattle.value_bounds.specs.BoundValues.{BoundValue, Unbounded}
use Rattle.value_bounds.specs.BoundBuiltins.{bound_at, bounds_at, local_bound}
use Rattle.value_bounds.specs.References.{lent_bound_in, lent_bounds_in}

of_none : (o : Builtin) (m : ℕ) → Unbounded ≡ local_bound o m []
of_none o m = grind arith

of_four : (o : Builtin) (m : ℕ) (a b c d : BoundValue) (bs : List BoundValue)
    → Unbounded ≡ local_bound o m (a ∷ b ∷ c ∷ d ∷ bs)
of_four o m a b c d bs = grind arith

pub too_few : (o : Builtin) (m d k : ℕ) (xs : List BoundRef) → length xs < 1
    → Unbounded ≡ local_bound o m (bounds_at d k (lent_bounds_in xs))
too_few o m d k [] h = of_none o m
too_few o m d k (x ∷ xs) h = absurd (omega arith)

pub too_many : (o : Builtin) (m d k : ℕ) (xs : List BoundRef) → 4 ≤ length xs
    → Unbounded ≡ local_bound o m (bounds_at d k (lent_bounds_in xs))
too_many o m d k (x ∷ y ∷ z ∷ w ∷ xs) h =
    let at : BoundRef → BoundValue = λ b. bound_at d k (lent_bound_in b) in
    of_four o m (at x) (at y) (at z) (at w) (bounds_at d k (lent_bounds_in xs))
too_many o m d k xs h = absurd (omega arith)
