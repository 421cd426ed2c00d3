-- A slot of a list of slots, as code writes it.
use Rattle.std.proofs.Common.{◌≡◌, ℕ, ◌<◌, List, length, sym, ◌∙◌, subst, arith, length-set}
use Rattle.std.specs.Prelude.{slice_set}
use Rattle.std.proofs.lemmas.List.{length-map, map-set}
use Rattle.value_bounds.specs.declared.bounds.LocalBound.{LocalBound}
use Rattle.value_bounds.specs.BoundValues.{BoundValue}
use Rattle.value_bounds.specs.References.{local_bound_in, local_bounds_in}
use Rattle.bound_firing.specs.BoundTrees.{slot_bound}
use Rattle.bound_firing.proofs.Frames.{set_same, set_other}
use Rattle.export_bounds.specs.declared.either.Side.{Side}
use Rattle.export_bounds.specs.Widening.{side_bound, SlotWidened}

slot_set : (s : Side) (k : ℕ) (b : BoundValue) (xs ys : List BoundValue) → k < length ys
    → b ≡ side_bound s (slot_bound k xs) (slot_bound k ys) → SlotWidened s k xs ys (slice_set ys k b)
slot_set s k b xs ys l e = record {
  held = set_same k b ys l ∙ e;
  out = record {
    long = sym (length-set ys k b);
    before = λ j h. set_other j k b ys (λ f. absurd (omega (arith, f, h)));
    behind = λ j h. set_other j k b ys (λ f. absurd (omega (arith, f, h)));
  };
}

pub slot_written : (s : Side) (k : ℕ) (xs ys : List LocalBound) (b : LocalBound) → k < length ys
    → local_bound_in b ≡ side_bound s (slot_bound k (local_bounds_in xs)) (slot_bound k (local_bounds_in ys))
    → SlotWidened s k (local_bounds_in xs) (local_bounds_in ys) (local_bounds_in (slice_set ys k b))
slot_written s k xs ys b l e =
    let n = length-map ys local_bound_in in
    subst (SlotWidened s k (local_bounds_in xs) (local_bounds_in ys)) (sym (map-set local_bound_in ys k b))
    (slot_set s k (local_bound_in b) (local_bounds_in xs) (local_bounds_in ys) (omega (arith, l, n)) e)
