-- Solutions of a program on a network, as equations.
use Rattle.std.specs.Prelude.{ℕ, suc, Bool, true, false, ◌≡◌, ◌+◌, ◌&&◌, List, [], ◌∷◌, map, filter, min, nat_eq, if◌then◌else◌, Some, slice_get}
use Rattle.fc_values.specs.Types.{ValueType}
use Rattle.fc_values.specs.Values.{LocalValue, IntValue, BoolValue}
use Rattle.fc_values.specs.Fields.{AnyValue, ValueLocal, ValueField, FitsOver, with_entry, with_number, restricted}
use Rattle.fc_values.specs.Builtins.{builtin_value}
use Rattle.fc_nodes.specs.Terms.{Leaf, Literal, Variable, Sense, Uid, NbrLink, Evolution, ByRep, ByShare, Term, Terms, Plain, Apply, Nbr, Evolve, If, Let, NoMore, More, size}
use Rattle.alignment.specs.Environments.{same_truth}
use Rattle.topology.specs.Networks.{Network, lives, inputs_in, near}
use Rattle.topology.specs.Nearby.{neighbour_numbers}

-- a set of devices
abbrev pub Devices : Type 0
Devices = ℕ → Bool

abbrev pub In : Devices → ℕ → Type 0
In D d = D d ≡ true

-- a value for each device
abbrev pub ValueMap : Type 0
ValueMap = ℕ → AnyValue

-- the map of each binder in scope, by its place
abbrev pub ValueMaps : Type 0
ValueMaps = ℕ → ValueMap

abbrev pub bind : ℕ → ValueMap → ValueMaps → ValueMaps
bind p G V = λ q. if nat_eq p q then G else V q

-- the neighbours of a device that are in a set, with the weights of the links
abbrev pub near_among : Network → Devices → ℕ → List (ℕ × ℕ)
near_among N D d = filter (λ (n : ℕ × ℕ). D n.0) (near N d)

-- a device and its neighbours in a set
abbrev pub around : Network → Devices → ℕ → List ℕ
around N D d = with_number d (neighbour_numbers (near_among N D d))

-- a field over a device and these neighbours
abbrev pub field_around : ℕ → LocalValue → List (ℕ × ℕ) → (ℕ × ℕ → LocalValue) → AnyValue
field_around d v ns f = ValueField (with_entry d v (map (λ (n : ℕ × ℕ). (n.0, f n)) ns))

-- the field of what a map has at a device and its neighbours in a set
abbrev pub field_of : Network → Devices → (ℕ → LocalValue) → ValueMap
field_of N D f = λ d. field_around d (f d) (near_among N D d) (λ n. f n.0)

-- a map with values of a type, its fields over each device and its neighbours in the set
abbrev pub FitsOn : Network → Devices → ValueType → ValueMap → Type 0
FitsOn N D t F = (d : ℕ) → In D d → FitsOver N.declared.ceiling (around N D d) t (F d)

-- local values as a map
abbrev pub local_map : (ℕ → LocalValue) → ValueMap
local_map f = λ d. ValueLocal (f d)

-- what the variable of a `rep` or `share` is where the values are these
abbrev pub evolved : Evolution → Network → Devices → (ℕ → LocalValue) → ValueMap
evolved ByRep N D f = local_map f
evolved ByShare N D f = field_of N D f

-- the devices of a set that have this truth
abbrev pub where_is : Bool → Devices → (ℕ → Bool) → Devices
where_is b D k = λ d. D d && same_truth b (k d)

-- what some maps have at a device
abbrev pub at_device : ℕ → List ValueMap → List AnyValue
at_device d Gs = map (λ (G : ValueMap). G d) Gs

-- `LeafIs N D l V d w`: a leaf has the value w at device d, where the binders have the maps V
abbrev pub LeafIs : Network → Devices → Leaf → ValueMaps → ℕ → AnyValue → Type 0
LeafIs N D (Literal v) V d w = w ≡ ValueLocal v
LeafIs N D (Variable q) V d w = w ≡ restricted d (neighbour_numbers (near_among N D d)) (V q d)
LeafIs N D (Sense i) V d w = (v : LocalValue) × (slice_get (inputs_in d N.devices) i ≡ Some v) × (w ≡ ValueLocal v)
LeafIs N D Uid V d w = w ≡ ValueLocal (IntValue (min d N.declared.ceiling))
LeafIs N D NbrLink V d w = w ≡ field_around d (IntValue N.declared.least) (near_among N D d) (λ n. IntValue n.1)

-- `Solves N p t D V F`: over the devices D, where the binders have the maps V, the map F solves the term t at place p.
-- Each map fits the type of its term. The first value of a `rep` or `share` isn't looked at.
abbrev mutual
  pub Solves : Network → ℕ → Term → Devices → ValueMaps → ValueMap → Type 0
  Solves N p (Plain t l) D V F = FitsOn N D t F × ((d : ℕ) → In D d → LeafIs N D l V d (F d))
  Solves N p (Apply t o xs) D V F = FitsOn N D t F × (Gs : List ValueMap) × SolveAll N (suc p) xs D V Gs
      × ((d : ℕ) → In D d → builtin_value o N.declared.ceiling d (at_device d Gs) ≡ Some (F d))
  Solves N p (Nbr t a) D V F = FitsOn N D t F × (g : ℕ → LocalValue) × Solves N (suc p) a D V (local_map g)
      × ((d : ℕ) → In D d → F d ≡ field_of N D g d)
  Solves N p (Evolve t e a b) D V F = FitsOn N D t F × (f : ℕ → LocalValue)
      × Solves N (suc p + size a) b D (bind p (evolved e N D f) V) (local_map f)
      × ((d : ℕ) → In D d → F d ≡ ValueLocal (f d))
  Solves N p (If t c a b) D V F =
      FitsOn N D t F × (k : ℕ → Bool) × Solves N (suc p) c D V (local_map (λ d. BoolValue (k d)))
      × Solves N (suc p + size c) a (where_is true D k) V F
      × Solves N (suc p + size c + size a) b (where_is false D k) V F
  Solves N p (Let t a b) D V F =
      FitsOn N D t F × (G : ValueMap) × Solves N (suc p) a D V G × Solves N (suc p + size a) b D (bind p G V) F

  pub SolveAll : Network → ℕ → Terms → Devices → ValueMaps → List ValueMap → Type 0
  SolveAll N p NoMore D V [] = Unit {0}
  SolveAll N p NoMore D V (G ∷ Gs) = ⊥
  SolveAll N p (More x xs) D V [] = ⊥
  SolveAll N p (More x xs) D V (G ∷ Gs) = Solves N p x D V G × SolveAll N (p + size x) xs D V Gs

-- no binder is in scope: any maps
abbrev pub no_binders : ValueMaps
no_binders = λ q d. ValueLocal (IntValue 0)

-- a field solves a program on a network: it solves `main` over all devices
abbrev pub SolvesMain : Network → Term → (ℕ → LocalValue) → Type 0
SolvesMain N t F = Solves N 0 t (lives N) no_binders (local_map F)
