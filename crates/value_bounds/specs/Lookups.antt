-- Where the numbers of a field's neighbours rise, so that an entry may be found by its position.
use Rattle.std.specs.Prelude.{ℕ, Bool, true, ◌&&◌, List, [], ◌∷◌}
use Rattle.fc_values.specs.Fields.{rises}
use Rattle.value_bounds.specs.BoundBuiltins.{BoundEntries, AnyBound, BoundLocal, BoundField, BoundAny}
use Rattle.value_bounds.specs.BoundBuiltins.{maybes_in, maybe_numbers}

-- the numbers of the neighbours
abbrev pub numbers_in : BoundEntries → List ℕ
numbers_in es = maybe_numbers (maybes_in es)

-- they rise, if the bound is that of a field
abbrev pub in_order : AnyBound → Bool
in_order (BoundLocal b) = true
in_order (BoundField own es) = rises (numbers_in es)
in_order BoundAny = true

abbrev pub all_in_order : List AnyBound → Bool
all_in_order [] = true
all_in_order (b ∷ bs) = in_order b && all_in_order bs
