-- Crates above cite this module: a slot of a list of slots, as code reads it.
use Rattle.std.proofs.Common.{◌≡◌, ℕ, zero, suc, ◌<◌, List, [], ◌∷◌, length, get_or, sym, ap, arith}
use Rattle.std.proofs.lemmas.List.{length-map}
use Rattle.value_bounds.specs.declared.bounds.LocalBound.{LocalBound}
use Rattle.value_bounds.specs.References.{local_bound_in, local_bounds_in}
use Rattle.bound_firing.specs.BoundTrees.{slot_bound}

pub slots_long : (xs : List LocalBound) (k : ℕ) → k < length (local_bounds_in xs) → k < length xs
slots_long xs k h = omega (arith, h, length-map xs local_bound_in)

pub slot_read : (xs : List LocalBound) (k : ℕ) (b : LocalBound) → b ≡ get_or xs k b → k < length xs
    → slot_bound k (local_bounds_in xs) ≡ local_bound_in b
slot_read [] k b e h = absurd (omega arith)
slot_read (x ∷ xs) zero b e h = ap local_bound_in (sym e)
slot_read (x ∷ xs) (suc k) b e h = slot_read xs k b e (omega arith)
