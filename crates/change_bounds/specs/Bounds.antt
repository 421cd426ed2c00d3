-- What a scene and lines of changes say of the inputs of a device and of the weight of a link.
use Rattle.std.specs.Prelude.{ℕ, Bool, true, false, ◌+◌, ◌&&◌, not, min, max, nat_eq, if◌then◌else◌}
use Rattle.std.specs.Prelude.{List, [], ◌∷◌, ◌++◌, Option, Some, None, option_map, slice_get}
use Rattle.fc_values.specs.Types.{Declarations, Input}
use Rattle.fc_values.specs.declared.types.InputTy.{InputTy}
use Rattle.fc_values.specs.declared.types.InputTy.TheVariants as input
use Rattle.topology.specs.Networks.{Network, Edge, inputs_in, lives}
use Rattle.topology.specs.Changes.{are_linked}
use Rattle.value_bounds.specs.BoundValues.{BoundValue, Between, Truths, Unbounded, exactly, either}
use Rattle.changes.specs.declared.types.Range.{Range}
use Rattle.changes.specs.declared.types.Possible.{Possible}
use Rattle.changes.specs.declared.types.Possible.TheVariants as possible
use Rattle.changes.specs.declared.types.Weights.{Weights}
use Rattle.changes.specs.declared.types.Weights.TheVariants as weights
use Rattle.changes.specs.Changes.{range}
use Rattle.changes.specs.Changes.{ChangeValue, SetChange, LinkChange, UnlinkChange, LeaveChange, JoinChange}
use Rattle.changes.specs.Hand.{are_pair, leaves_device, unlinks_pair, some_line}

-- ---- what is always there

-- a device is always there where it is in the scene and no line says that it leaves
abbrev pub stays : Network → List ChangeValue → ℕ → Bool
stays n cs d = lives n d && not (some_line (leaves_device d) cs)

-- a link is always there where it is in the scene, no line says that it goes, and both devices are always there
abbrev pub stays_linked : Network → List ChangeValue → ℕ → ℕ → Bool
stays_linked n cs a b = are_linked n a b && not (some_line (unlinks_pair a b) cs) && stays n cs a && stays n cs b

-- ---- inputs

-- all values of an input
abbrev pub whole_bound : InputTy → BoundValue
whole_bound input.Truth = Truths false true
whole_bound (input.Whole least greatest) = Between least greatest

abbrev pub possible_bound : InputTy → Possible → BoundValue
possible_bound t (possible.Numbers r) = Between r.least r.greatest
possible_bound t (possible.Truth b) = Truths b b
possible_bound t possible.Pair = Unbounded
possible_bound t possible.Any = whole_bound t

abbrev pub as_list : {A : Type 0} → Option A → List A
as_list None = []
as_list (Some x) = x ∷ []

-- what a line says of an input of a device
abbrev pub said_bound : ℕ → ℕ → InputTy → ChangeValue → List BoundValue
said_bound d i t (SetChange e j p) = if nat_eq d e && nat_eq i j then possible_bound t p ∷ [] else []
said_bound d i t (LinkChange a b w) = []
said_bound d i t (UnlinkChange a b) = []
said_bound d i t (LeaveChange e) = []
said_bound d i t (JoinChange e ps) =
    if nat_eq d e then as_list (option_map (possible_bound t) (slice_get ps i)) else []

abbrev pub said_bounds : ℕ → ℕ → InputTy → List ChangeValue → List BoundValue
said_bounds d i t [] = []
said_bounds d i t (c ∷ cs) = said_bound d i t c ++ said_bounds d i t cs

-- and what the scene says of it
abbrev pub scene_bound : Network → ℕ → ℕ → List BoundValue
scene_bound n d i = as_list (option_map exactly (slice_get (inputs_in d n.devices) i))

-- the least bound that holds some
abbrev pub joint_bound_from : BoundValue → List BoundValue → BoundValue
joint_bound_from b [] = b
joint_bound_from b (c ∷ cs) = joint_bound_from (either b c) cs

abbrev pub joint_bound : List BoundValue → BoundValue
joint_bound [] = Unbounded
joint_bound (b ∷ bs) = joint_bound_from b bs

abbrev pub bound_of_input : Network → List ChangeValue → ℕ → ℕ → InputTy → BoundValue
bound_of_input n cs d i t = joint_bound (scene_bound n d i ++ said_bounds d i t cs)

-- the bounds of all inputs of a device, from a number on
abbrev pub bounds_from : Network → List ChangeValue → ℕ → ℕ → List Input → List BoundValue
bounds_from n cs d i [] = []
bounds_from n cs d i (x ∷ xs) = bound_of_input n cs d i x.type ∷ bounds_from n cs d (i + 1) xs

abbrev pub bounds_of_device : Network → List ChangeValue → ℕ → List BoundValue
bounds_of_device n cs d = bounds_from n cs d 0 n.declared.inputs

-- ---- weights

abbrev pub weights_range : Declarations → Weights → Range
weights_range D (weights.Range r) = r
weights_range D weights.Any = range D.least D.greatest

abbrev pub said_weight : Declarations → ℕ → ℕ → ChangeValue → List Range
said_weight D x y (SetChange e i p) = []
said_weight D x y (LinkChange a b w) = if are_pair a b x y then weights_range D w ∷ [] else []
said_weight D x y (UnlinkChange a b) = []
said_weight D x y (LeaveChange e) = []
said_weight D x y (JoinChange e ps) = []

abbrev pub said_weights : Declarations → ℕ → ℕ → List ChangeValue → List Range
said_weights D x y [] = []
said_weights D x y (c ∷ cs) = said_weight D x y c ++ said_weights D x y cs

abbrev pub scene_weight : ℕ → ℕ → List Edge → List Range
scene_weight x y [] = []
scene_weight x y (l ∷ ls) =
    if nat_eq l.a (min x y) && nat_eq l.b (max x y) then range l.weight l.weight ∷ scene_weight x y ls
    else scene_weight x y ls

-- the least range that holds some, if there are any
abbrev pub wider : Range → Range → Range
wider r s = range (min r.least s.least) (max r.greatest s.greatest)

abbrev pub widest_from : Range → List Range → Range
widest_from r [] = r
widest_from r (s ∷ ss) = widest_from (wider r s) ss

abbrev pub widest : List Range → Option Range
widest [] = None
widest (r ∷ rs) = Some (widest_from r rs)

abbrev pub weights_of_pair : Network → List ChangeValue → ℕ → ℕ → Option Range
weights_of_pair n cs x y = widest (scene_weight x y n.links ++ said_weights n.declared x y cs)
