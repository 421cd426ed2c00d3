-- What bounds in code stand for.
use Rattle.std.specs.Prelude.{ℕ, Bool, List, map}
use Rattle.value_bounds.specs.declared.bounds.LocalBound.{LocalBound}
use Rattle.value_bounds.specs.declared.bounds.LocalBound.TheVariants as local
use Rattle.value_bounds.specs.declared.bounds.BoundEntry.{BoundEntry}
use Rattle.value_bounds.specs.declared.bounds.FieldBound.{FieldBound}
use Rattle.value_bounds.specs.declared.bounds.Bound.{Bound}
use Rattle.value_bounds.specs.declared.bounds.Bound.TheVariants as bound
use Rattle.value_bounds.specs.declared.bounds.BoundRef.{BoundRef}
use Rattle.value_bounds.specs.declared.bounds.BoundRef.TheVariants as lent
use Rattle.value_bounds.specs.BoundValues.{BoundValue, Between, Truths, Both, Unbounded}
use Rattle.value_bounds.specs.BoundBuiltins.{BoundEntries, AnyBound, BoundLocal, BoundField, BoundAny}

-- the bound of a local value
abbrev pub local_bound_in : LocalBound → BoundValue
local_bound_in (local.Between a b) = Between a b
local_bound_in (local.Truths a b) = Truths a b
local_bound_in (local.Both' p a q b) = Both (local_bound_in a) (local_bound_in b)
local_bound_in local.Unbounded = Unbounded

-- those of slots
abbrev pub local_bounds_in : List LocalBound → List BoundValue
local_bounds_in bs = map local_bound_in bs

-- the entries of a bound of a field
abbrev pub entry_in : BoundEntry → ℕ × Bool × BoundValue
entry_in e = (e.device, e.sure, local_bound_in e.bound)

abbrev pub entries_in : List BoundEntry → BoundEntries
entries_in es = map entry_in es

-- the bound of a field, and that of any value
abbrev pub field_bound_in : FieldBound → AnyBound
field_bound_in f = BoundField (local_bound_in f.own) (entries_in f.entries.items)

abbrev pub any_bound_in : Bound → AnyBound
any_bound_in (bound.Local b) = BoundLocal (local_bound_in b)
any_bound_in (bound.Field f) = field_bound_in f
any_bound_in bound.Any = BoundAny

abbrev pub any_bounds_in : List Bound → List AnyBound
any_bounds_in bs = map any_bound_in bs

-- a bound that stands elsewhere, and several
abbrev pub lent_bound_in : BoundRef → AnyBound
lent_bound_in (lent.Local b) = BoundLocal (local_bound_in b.now)
lent_bound_in (lent.Field f) = field_bound_in f.now
lent_bound_in lent.Any = BoundAny

abbrev pub lent_bounds_in : List BoundRef → List AnyBound
lent_bounds_in bs = map lent_bound_in bs
