-- What tables in code stand for: which devices are at hand, what is said of their inputs, and of pairs.
use Rattle.std.specs.Prelude.{ℕ, Bool, false, ◌≡◌, ◌&&◌, not, min, max, nat_eq, nat_le, if◌then◌else◌}
use Rattle.std.specs.Prelude.{List, [], ◌∷◌, ◌++◌, Option, Some, None, option_map, slice_get}
use Rattle.std.specs.Ordering.{nat_cmp, ordering_then}
use Rattle.std.specs.declared.cmp.Ordering.{Ordering}
use Rattle.std.specs.BTreeMap.{BTreeMap, get}
use Rattle.fc_values.specs.Types.{Declarations, Input}
use Rattle.fc_values.specs.declared.types.InputTy.{InputTy}
use Rattle.topology.specs.Networks.{Network}
use Rattle.topology.specs.Changes.{are_linked}
use Rattle.value_bounds.specs.BoundValues.{BoundValue, either}
use Rattle.value_bounds.specs.References.{local_bound_in}
use Rattle.value_bounds.specs.declared.bounds.LocalBound.{LocalBound}
use Rattle.changes.specs.declared.types.Range.{Range}
use Rattle.changes.specs.Changes.{ChangeValue, SetChange, LinkChange, UnlinkChange, LeaveChange, JoinChange}
use Rattle.changes.specs.Hand.{at_hand, unlinks_pair, some_line}
use Rattle.change_bounds.specs.Bounds.{stays, scene_bound, said_bound, said_bounds, weights_range, weights_of_pair}
use Rattle.change_bounds.specs.Bounds.{wider}
use Rattle.change_bounds.specs.declared.pairs.PairBound.{PairBound}

-- ---- devices

-- a device at hand, and whether it stays
abbrev pub presence : Network → List ChangeValue → ℕ → Option Bool
presence n cs d = if at_hand n cs d then Some (stays n cs d) else None

-- a device that comes is at hand, and one that leaves doesn't stay
abbrev pub is_noted : Option Bool → Option Bool
is_noted None = Some false
is_noted (Some s) = Some s

abbrev pub is_gone : Option Bool → Option Bool
is_gone None = None
is_gone (Some s) = Some false

-- what is known of a device after one line more
abbrev pub noted : Option Bool → ℕ → ChangeValue → Option Bool
noted o d (SetChange e i p) = o
noted o d (LinkChange a b w) = o
noted o d (UnlinkChange a b) = o
noted o d (LeaveChange e) = if nat_eq d e then is_gone o else o
noted o d (JoinChange e ps) = if nat_eq d e then is_noted o else o

-- ---- inputs

-- the least bound that holds some of before and some more, if there are any
abbrev pub widened : Option BoundValue → BoundValue → BoundValue
widened None b = b
widened (Some a) b = either a b

abbrev pub widened_by : Option BoundValue → List BoundValue → Option BoundValue
widened_by o [] = o
widened_by o (b ∷ bs) = widened_by (Some (widened o b)) bs

-- all that is said of an input
abbrev pub input_said : Network → List ChangeValue → ℕ → ℕ → InputTy → Option BoundValue
input_said n cs d i t = widened_by None (scene_bound n d i ++ said_bounds d i t cs)

-- pairs of numbers by the first, then by the second
abbrev pub by_pair : ℕ × ℕ → ℕ × ℕ → Ordering
by_pair x y = ordering_then (nat_cmp x.0 y.0) (nat_cmp x.1 y.1)

-- the bound in a table of an input of a device
abbrev pub bound_at : BTreeMap (ℕ × ℕ) LocalBound → ℕ → ℕ → Option BoundValue
bound_at m d i = option_map local_bound_in (get by_pair m (d, i))

abbrev pub AreInputsSaid : Network → List ChangeValue → BTreeMap (ℕ × ℕ) LocalBound → Type 0
AreInputsSaid n cs m = (d i : ℕ) (x : Input) → slice_get n.declared.inputs i ≡ Some x
    → bound_at m d i ≡ input_said n cs d i x.type

-- a table says of inputs what it said before, and what one line more says
abbrev pub AddsLine : List Input → ChangeValue → BTreeMap (ℕ × ℕ) LocalBound → BTreeMap (ℕ × ℕ) LocalBound → Type 0
AddsLine is c old new = (d i : ℕ) (x : Input) → slice_get is i ≡ Some x
    → bound_at new d i ≡ widened_by (bound_at old d i) (said_bound d i x.type c)

-- ---- pairs

abbrev pub pair_of : Range → Bool → PairBound
pair_of r s = record { weights = r; sure = s }

-- all that is said of a pair, the lesser device first
abbrev pub pair_said : Network → List ChangeValue → ℕ → ℕ → Option PairBound
pair_said n cs x y = if nat_le x y
    then option_map (λ r. pair_of r (are_linked n x y && not (some_line (unlinks_pair x y) cs)))
    (weights_of_pair n cs x y)
    else None

abbrev pub linked : Option PairBound → Range → Bool → PairBound
linked None r s = pair_of r s
linked (Some p) r s = pair_of (wider p.weights r) p.sure

abbrev pub unlinked : PairBound → PairBound
unlinked p = pair_of p.weights false

abbrev pub is_lesser_first : ℕ → ℕ → ℕ → ℕ → Bool
is_lesser_first a b x y = nat_eq x (min a b) && nat_eq y (max a b)

-- what is said of a pair with one line more
abbrev pub told : Declarations → Option PairBound → ℕ → ℕ → ChangeValue → Option PairBound
told D o x y (SetChange e i p) = o
told D o x y (LinkChange a b w) = if is_lesser_first a b x y then Some (linked o (weights_range D w) false) else o
told D o x y (UnlinkChange a b) = if is_lesser_first a b x y then option_map unlinked o else o
told D o x y (LeaveChange e) = o
told D o x y (JoinChange e ps) = o
