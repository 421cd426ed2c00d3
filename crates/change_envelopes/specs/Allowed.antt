-- Which edits a line of changes allows, in a scene and beside other lines.
use Rattle.std.specs.Prelude.{ℕ, zero, suc, ◌≡◌, ◌≤◌, List, [], ◌∷◌, Some, nat_eq, false}
use Rattle.fc_values.specs.Types.{Input}
use Rattle.fc_values.specs.Values.{LocalValue}
use Rattle.topology.specs.Networks.{NetDevice, Network}
use Rattle.firing_core.specs.Entries.{EditValue, LinkEdit, UnlinkEdit, SetEdit, JoinEdit, LeaveEdit}
use Rattle.value_bounds.specs.BoundValues.{Lies}
use Rattle.bound_firing.specs.Firing.{InputsLie}
use Rattle.changes.specs.declared.types.Range.{Range}
use Rattle.changes.specs.declared.types.Possible.{Possible}
use Rattle.changes.specs.declared.types.Weights.{Weights}
use Rattle.changes.specs.Changes.{ChangeValue, SetChange, LinkChange, UnlinkChange, LeaveChange, JoinChange}
use Rattle.change_bounds.specs.Bounds.{possible_bound, weights_range, bounds_of_device, weights_of_pair}

-- a value is one that is said of the input of a number
abbrev pub IsPossible : List Input → ℕ → Possible → LocalValue → Type 0
IsPossible [] i p v = ⊥
IsPossible (x ∷ xs) zero p v = Lies (possible_bound x.type p) v
IsPossible (x ∷ xs) (suc i) p v = IsPossible xs i p v

-- values are those that are said, one for each input
abbrev pub ArePossible : List Input → List Possible → List LocalValue → Type 0
ArePossible [] [] [] = Unit {0}
ArePossible (x ∷ xs) (p ∷ ps) (v ∷ vs) = Lies (possible_bound x.type p) v × ArePossible xs ps vs
ArePossible _ _ _ = ⊥

pub record InRange (r : Range) (w : ℕ) : Type 0 where
  pub above : r.least ≤ w
  pub below : w ≤ r.greatest

-- `set`: the input is set to such a value. `link`: the pair is linked by such a weight. `unlink`: its link goes.
-- `leave`: the device leaves, and comes back with inputs within their bounds. `join`: the device comes with such inputs,
-- leaves, and comes again. The links of a device that comes back are linked again by the weights of their pairs.
pub data Allows (n : Network) (cs : List ChangeValue) : ChangeValue → EditValue → Type 0 where
  set_to : (d i : ℕ) (p : Possible) (v : LocalValue) → IsPossible n.declared.inputs i p v
      → Allows n cs (SetChange d i p) (SetEdit d i v)
  linked_by : (a b w : ℕ) (ws : Weights) → InRange (weights_range n.declared ws) w
      → Allows n cs (LinkChange a b ws) (LinkEdit a b w)
  unlinked : (a b : ℕ) → Allows n cs (UnlinkChange a b) (UnlinkEdit a b)
  gone : (d : ℕ) → Allows n cs (LeaveChange d) (LeaveEdit d)
  back : (x : NetDevice) → InputsLie (bounds_of_device n cs x.id) x.inputs
      → Allows n cs (LeaveChange x.id) (JoinEdit x)
  come : (x : NetDevice) (ps : List Possible) → ArePossible n.declared.inputs ps x.inputs
      → Allows n cs (JoinChange x.id ps) (JoinEdit x)
  gone_again : (d : ℕ) (ps : List Possible) → Allows n cs (JoinChange d ps) (LeaveEdit d)
  linked_again : (d b w : ℕ) (r : Range) → nat_eq d b ≡ false → weights_of_pair n cs d b ≡ Some r → InRange r w
      → Allows n cs (LeaveChange d) (LinkEdit d b w)
