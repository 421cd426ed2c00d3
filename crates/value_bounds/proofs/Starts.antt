-- Folds of truth values begin with one that changes nothing.
use Rattle.std.proofs.Common.{◌≡◌, [], ◌∷◌, refl, Bool, true, false}
use Rattle.value_bounds.specs.BoundValues.{BoundValue, Truths}
use Rattle.value_bounds.specs.BoundBuiltins.{BoundEntries, any_truths, any_bound, all_truths, all_bound}

any_after : (s : Bool) (b r : BoundValue) → any_truths true (Truths false false) (any_truths s b r) ≡ any_truths s b r
any_after true (Truths a b) (Truths c d) = refl
any_after false (Truths a b) (Truths c d) = refl
any_after s b r = refl

pub any_from_none : (es : BoundEntries) → any_truths true (Truths false false) (any_bound es) ≡ any_bound es
any_from_none [] = refl
any_from_none (e ∷ es) = any_after e.1 e.2 (any_bound es)

all_after : (s : Bool) (b r : BoundValue) → all_truths true (Truths true true) (all_truths s b r) ≡ all_truths s b r
all_after true (Truths a b) (Truths c d) = refl
all_after false (Truths a b) (Truths c d) = refl
all_after s b r = refl

pub all_from_none : (es : BoundEntries) → all_truths true (Truths true true) (all_bound es) ≡ all_bound es
all_from_none [] = refl
all_from_none (e ∷ es) = all_after e.1 e.2 (all_bound es)
