-- The first fault of a line of changes: by what the scene and all lines bring, and for the limits by the lines before.
use Rattle.std.specs.Prelude.{ℕ, zero, suc, Bool, true, ◌≡◌, ◌&&◌, ◌||◌, not, nat_eq, nat_le, if◌then◌else◌}
use Rattle.std.specs.Prelude.{List, [], ◌∷◌, length, Option, Some, None, option_map}
use Rattle.std.specs.Option.{option_or}
use Rattle.fc_values.specs.Types.{Declarations, Input}
use Rattle.fc_values.specs.Values.{IntValue, BoolValue}
use Rattle.fc_values.specs.declared.types.InputTy.{InputTy}
use Rattle.topology.specs.declared.types.TheConstants.{MOST_DEVICES}
use Rattle.topology.specs.declared.types.NetFault.{NetFault}
use Rattle.topology.specs.declared.types.NetFault.TheVariants as net
use Rattle.topology.specs.Inputs.{input_fault, or_fault}
use Rattle.topology.specs.Networks.{Network, lives}
use Rattle.topology.specs.Changes.{first_fault, in_metric}
use Rattle.changes.specs.declared.types.ChangeFault.{ChangeFault}
use Rattle.changes.specs.declared.types.ChangeFault.TheVariants as fault
use Rattle.changes.specs.declared.types.RefusedChange.{RefusedChange}
use Rattle.changes.specs.declared.types.RefusedChange.TheVariants as refused
use Rattle.changes.specs.declared.types.Possible.{Possible}
use Rattle.changes.specs.declared.types.Possible.TheVariants as possible
use Rattle.changes.specs.declared.types.TheConstants.{MOST_PAIRS}
use Rattle.changes.specs.declared.types.Weights.{Weights}
use Rattle.changes.specs.declared.types.Weights.TheVariants as weights
use Rattle.changes.specs.Changes.{ChangeValue, SetChange, LinkChange, UnlinkChange, LeaveChange, JoinChange}
use Rattle.changes.specs.Hand.{said, said_first, joins_device, some_line}
use Rattle.changes.specs.Hand.{at_hand, pair_at_hand, devices_at_hand, partners}

-- ---- values and weights

abbrev pub possible_fault : InputTy → Possible → Option NetFault
possible_fault t (possible.Numbers r) =
    or_fault (input_fault t (IntValue r.least)) (input_fault t (IntValue r.greatest))
possible_fault t (possible.Truth b) = input_fault t (BoolValue b)
possible_fault t possible.Pair = Some net.InputType
possible_fault t possible.Any = None

abbrev pub nth_possible_fault : List Input → ℕ → Possible → Option NetFault
nth_possible_fault [] i p = Some net.NoInput
nth_possible_fault (x ∷ xs) zero p = possible_fault x.type p
nth_possible_fault (x ∷ xs) (suc i) p = nth_possible_fault xs i p

-- those of a device, one for each declared input
abbrev pub possibles_fault : List Input → List Possible → Option NetFault
possibles_fault (x ∷ xs) (p ∷ ps) = or_fault (possible_fault x.type p) (possibles_fault xs ps)
possibles_fault _ _ = None

abbrev pub in_metric_all : Declarations → Weights → Bool
in_metric_all D (weights.Range r) = in_metric D r.least && in_metric D r.greatest
in_metric_all D weights.Any = true

-- ---- a line, by the scene, all lines and those before

-- a new pair of one device more than it may be in
abbrev pub is_crowded : Network → List ChangeValue → ℕ → Bool
is_crowded n before d = nat_le MOST_PAIRS (length (partners n before d))

-- whether a device is the only one at hand
abbrev pub is_alone : Network → List ChangeValue → Bool
is_alone n cs = nat_le (length (devices_at_hand n cs)) 1

abbrev pub change_fault : Network → (all before : List ChangeValue) → ChangeValue → Option NetFault
change_fault n all before (SetChange d i p) =
    if at_hand n all d then nth_possible_fault n.declared.inputs i p else Some net.NoDevice
change_fault n all before (LinkChange a b w) = first_fault (
    (not (at_hand n all a && at_hand n all b), net.NoDevice)
    ∷ (nat_eq a b, net.SelfLink)
    ∷ (not (in_metric_all n.declared w), net.Weight)
    ∷ (not (pair_at_hand n before a b) && (is_crowded n before a || is_crowded n before b), net.Degree)
    ∷ [])
change_fault n all before (UnlinkChange a b) = first_fault (
    (not (at_hand n all a && at_hand n all b), net.NoDevice)
    ∷ (not (pair_at_hand n all a b), net.NoLink)
    ∷ [])
change_fault n all before (LeaveChange d) = first_fault (
    (not (at_hand n all d), net.NoDevice)
    ∷ (is_alone n all, net.Last)
    ∷ [])
change_fault n all before (JoinChange d ps) = or_fault
    (first_fault (
    (lives n d, net.Twice)
    ∷ (not (some_line (joins_device d) before) && nat_le MOST_DEVICES (length (devices_at_hand n before)), net.Devices)
    ∷ (not (nat_eq (length ps) (length n.declared.inputs)), net.NoInput)
    ∷ []))
    (possibles_fault n.declared.inputs ps)

-- ---- the lines of a text

abbrev pub fault_of_line : Network → (all before : List ChangeValue) → Option ChangeValue → Option ChangeFault
fault_of_line n all before None = Some fault.Form
fault_of_line n all before (Some c) = option_map fault.Net (change_fault n all before c)

abbrev pub numbered_fault : ℕ → Option ChangeFault → Option (ℕ × ChangeFault)
numbered_fault k f = option_map (λ x. (k, x)) f

-- the first line that is refused, by its number, and why; some lines stand before, the last one first
abbrev pub first_from : Network → (all before : List ChangeValue) → List (ℕ × Option ChangeValue)
    → Option (ℕ × ChangeFault)
first_from n all before [] = None
first_from n all before (l ∷ ls) =
    option_or (numbered_fault l.0 (fault_of_line n all before l.1)) (first_from n all (said_first l.1 before) ls)

abbrev pub refused_line : Network → List (ℕ × Option ChangeValue) → Option (ℕ × ChangeFault)
refused_line n ls = first_from n (said ls) [] ls

abbrev pub NoneRefused : Network → List (ℕ × Option ChangeValue) → Type 0
NoneRefused n ls = refused_line n ls ≡ None

-- what is answered where a line is refused; want of memory may come at any time
abbrev pub RefusesChanges : Network → List (ℕ × Option ChangeValue) → RefusedChange → Type 0
RefusesChanges n ls (refused.Line k f) = refused_line n ls ≡ Some (k, f)
RefusesChanges n ls refused.Memory = Unit {0}
