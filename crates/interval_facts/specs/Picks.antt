-- Which ranges a builtin takes.
use Rattle.std.specs.Prelude.{ℕ, ◌<◌, List, [], ◌∷◌, map, slice_index_or as get_or}
use Rattle.fc_values.specs.declared.builtins.Builtin.{Builtin}
use Rattle.fc_values.specs.declared.builtins.Builtin.TheVariants as op
use Rattle.fc_values.specs.Types.{local_type_of}
use Rattle.interval_facts.specs.declared.builtins.Target.{Target}
use Rattle.interval_facts.specs.declared.intervals.Range.{Range}
use Rattle.interval_facts.specs.Ranges.{RangeValue, BoolRange, range_value, full, builtin_range}

-- the range of all values of a target, and that of a builtin's value there
abbrev pub other_of : Target → RangeValue
other_of t = full t.ceiling (local_type_of t.ty.now)

abbrev pub value_range : Target → Builtin → List RangeValue → RangeValue
value_range t builtin rs = builtin_range t.ceiling (other_of t) builtin rs

abbrev pub ranges_in : List Range → List RangeValue
ranges_in rs = map range_value rs

-- the ranges at these places
abbrev pub ranges_at : List RangeValue → List ℕ → List RangeValue
ranges_at rs ks = map (λ (k : ℕ). get_or rs k BoolRange) ks

abbrev pub picked : List Range → List ℕ → List RangeValue
picked rs ks = ranges_at (ranges_in rs) ks

-- these places are there
abbrev pub AreThere : ℕ → List ℕ → Type 0
AreThere n [] = Unit {0}
AreThere n (k ∷ ks) = (k < n) × AreThere n ks

-- the builtins with one argument, with two and with three, whose value's range depends on those of the arguments
abbrev pub IsComponent : Builtin → Type 0
IsComponent op.Fst = Unit {0}
IsComponent op.Snd = Unit {0}
IsComponent _ = ⊥

abbrev pub IsOfTwo : Builtin → Type 0
IsOfTwo op.Add = Unit {0}
IsOfTwo op.Sub = Unit {0}
IsOfTwo op.Mul = Unit {0}
IsOfTwo op.Min = Unit {0}
IsOfTwo op.Max = Unit {0}
IsOfTwo op.Pair = Unit {0}
IsOfTwo op.MinHoodLoc = Unit {0}
IsOfTwo op.MaxHoodLoc = Unit {0}
IsOfTwo _ = ⊥

abbrev pub IsOfThree : Builtin → Type 0
IsOfThree op.Rise = Unit {0}
IsOfThree op.Mux = Unit {0}
IsOfThree _ = ⊥
