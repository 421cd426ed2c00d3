-- Binders in scope, with their types, ranges and maps.
use Rattle.std.specs.Prelude.{ℕ, ◌≡◌, List, [], ◌∷◌, Option, Some, None, nat_eq, if◌then◌else◌}
use Rattle.fc_values.specs.Types.{LocalType, IntType, BoolType, PairType}
use Rattle.fc_values.specs.BuiltinTypes.{inner}
use Rattle.fc_nodes.specs.Typing.{Scope}
use Rattle.topology.specs.Networks.{Network, Lives}
use Rattle.interval_facts.specs.Ranges.{RangeValue, IntRange, BoolRange, PairRange, Bounds}
use Rattle.interval_facts.specs.Solutions.{Devices, In, ValueMaps}
use Rattle.interval_facts.specs.Claims.{MapLiesIn}

-- a range has the form of a type
abbrev pub HasForm : LocalType → RangeValue → Type 0
HasForm IntType (IntRange a b) = Unit {0}
HasForm BoolType BoolRange = Unit {0}
HasForm (PairType s t) (PairRange r u) = HasForm s r × HasForm t u
HasForm _ _ = ⊥

abbrev pub HaveForms : List LocalType → List RangeValue → Type 0
HaveForms [] [] = Unit {0}
HaveForms (t ∷ ts) (r ∷ rs) = HasForm t r × HaveForms ts rs
HaveForms _ _ = ⊥

-- the same binders have types and ranges, which have the types' forms
abbrev pub BoundsFit : Scope → Bounds → Type 0
BoundsFit [] [] = Unit {0}
BoundsFit (b ∷ bs) (c ∷ cs) = (b.0 ≡ c.0) × HasForm (inner b.1) c.1 × BoundsFit bs cs
BoundsFit _ _ = ⊥

-- the range of the nearest binder at a place
abbrev pub found : ℕ → Bounds → Option RangeValue
found n [] = None
found n (b ∷ bs) = if nat_eq b.0 n then Some b.1 else found n bs

-- the binders in scope have their maps in their ranges
abbrev pub BoundsHold : Devices → Bounds → ValueMaps → Type 0
BoundsHold D bs V = (n : ℕ) (r : RangeValue) → found n bs ≡ Some r → MapLiesIn D r (V n)

-- the devices of a set are there
abbrev pub Alive : Network → Devices → Type 0
Alive N D = (d : ℕ) → In D d → Lives N d
