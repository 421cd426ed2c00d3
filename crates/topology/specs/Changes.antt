-- The changes of a network: the first reason against each, in their order, and the network after it.
use Rattle.std.specs.Prelude.{ℕ, zero, suc, ◌≤◌, Bool, false, ◌+◌, ◌&&◌, ◌||◌, not, min, max, List, [], ◌∷◌, ◌++◌}
use Rattle.std.specs.Prelude.{length, filter, nat_eq, nat_lt, nat_le, if◌then◌else◌, Option, Some, None, ◌≡◌}
use Rattle.std.specs.Prelude.{slice_set}
use Rattle.fc_values.specs.Types.{Declarations, Input}
use Rattle.fc_values.specs.Values.{LocalValue}
use Rattle.fc_values.specs.declared.limits.TheConstants.{MOST_LINKS}
use Rattle.topology.specs.declared.types.TheConstants.{GREATEST_NUMBER, MOST_DEVICES}
use Rattle.topology.specs.declared.types.NetFault.{NetFault}
use Rattle.topology.specs.declared.types.NetFault.TheVariants as fault
use Rattle.topology.specs.declared.types.MakeFault.{MakeFault}
use Rattle.topology.specs.declared.types.MakeFault.TheVariants as make
use Rattle.topology.specs.declared.types.JoinFault.{JoinFault}
use Rattle.topology.specs.declared.types.JoinFault.TheVariants as join
use Rattle.topology.specs.Inputs.{input_fault, inputs_fault, or_fault}
use Rattle.topology.specs.Networks.{NetDevice, Edge, Network, numbers, lives, near}
use Rattle.fc_values.specs.Fields.{is_in}
use Rattle.fc_values.specs.Lists.{insert_after}

-- the fault of the first condition that holds
abbrev pub first_fault : List (Bool × NetFault) → Option NetFault
first_fault [] = None
first_fault (c ∷ cs) = if c.0 then Some c.1 else first_fault cs

-- ---- links: each pair of devices has one, the lesser device first

abbrev pub is_pair : ℕ → ℕ → Edge → Bool
is_pair a b l = nat_eq l.a a && nat_eq l.b b

-- a link comes before a pair: by the first device, then by the second
abbrev pub is_before : ℕ → ℕ → Edge → Bool
is_before a b l = nat_lt l.a a || (nat_eq l.a a && nat_lt l.b b)

abbrev pub touches : ℕ → Edge → Bool
touches d l = nat_eq l.a d || nat_eq l.b d

abbrev pub has_pair : ℕ → ℕ → List Edge → Bool
has_pair a b [] = false
has_pair a b (l ∷ ls) = is_pair a b l || has_pair a b ls

-- the links without that of a pair, and without those of a device
abbrev pub drop_pair : ℕ → ℕ → List Edge → List Edge
drop_pair a b ls = filter (λ l. not (is_pair a b l)) ls

abbrev pub drop_links : ℕ → List Edge → List Edge
drop_links d ls = filter (λ l. not (touches d l)) ls

-- one link more, in its place among rising links
abbrev pub insert_edge : Edge → List Edge → List Edge
insert_edge e ls = insert_after (is_before e.a e.b) e ls

-- the link put in place of its pair's, or added
abbrev pub put_edge : Edge → List Edge → List Edge
put_edge e ls = insert_edge e (drop_pair e.a e.b ls)

abbrev pub pair_edge : ℕ → ℕ → ℕ → Edge
pair_edge a b w = record { a = min a b; b = max a b; weight = w }

-- whether two devices are linked
abbrev pub are_linked : Network → ℕ → ℕ → Bool
are_linked n a b = has_pair (min a b) (max a b) n.links

-- whether a device has as many links as it can have
abbrev pub is_full : Network → ℕ → Bool
is_full n d = nat_le MOST_LINKS (length (near n d))

-- ---- devices

-- one device more, in its place among rising numbers
abbrev pub insert_device : NetDevice → List NetDevice → List NetDevice
insert_device x ns = insert_after (λ (n : NetDevice). nat_lt n.id x.id) x ns

-- devices by rising numbers
abbrev pub in_order : List NetDevice → List NetDevice
in_order [] = []
in_order (n ∷ ns) = insert_device n (in_order ns)

abbrev pub drop_device : ℕ → List NetDevice → List NetDevice
drop_device d ns = filter (λ (n : NetDevice). not (nat_eq d n.id)) ns

-- a value in the place of an input of a device
abbrev pub put_input : ℕ → ℕ → LocalValue → List NetDevice → List NetDevice
put_input d i v [] = []
put_input d i v (n ∷ ns) =
    (if nat_eq d n.id then record n { inputs = slice_set n.inputs i v } else n) ∷ put_input d i v ns

-- ---- changes

abbrev pub in_metric : Declarations → ℕ → Bool
in_metric D w = nat_le D.least w && nat_le w D.greatest

abbrev pub link_fault : Network → ℕ → ℕ → ℕ → Option NetFault
link_fault n a b w = first_fault (
    (not (lives n a && lives n b), fault.NoDevice)
    ∷ (nat_eq a b, fault.SelfLink)
    ∷ (not (in_metric n.declared w), fault.Weight)
    ∷ (not (are_linked n a b) && (is_full n a || is_full n b), fault.Degree)
    ∷ [])

abbrev pub linked : Network → ℕ → ℕ → ℕ → Network
linked n a b w = record n { links = put_edge (pair_edge a b w) n.links }

abbrev pub unlink_fault : Network → ℕ → ℕ → Option NetFault
unlink_fault n a b = first_fault (
    (not (lives n a && lives n b), fault.NoDevice)
    ∷ (not (are_linked n a b), fault.NoLink)
    ∷ [])

abbrev pub unlinked : Network → ℕ → ℕ → Network
unlinked n a b = record n { links = drop_pair (min a b) (max a b) n.links }

-- the fault of a value for the input of a number
abbrev pub nth_fault : List Input → ℕ → LocalValue → Option NetFault
nth_fault [] i v = Some fault.NoInput
nth_fault (x ∷ xs) zero v = input_fault x.type v
nth_fault (x ∷ xs) (suc i) v = nth_fault xs i v

abbrev pub set_fault : Network → ℕ → ℕ → LocalValue → Option NetFault
set_fault n d i v = if lives n d then nth_fault n.declared.inputs i v else Some fault.NoDevice

abbrev pub with_input : Network → ℕ → ℕ → LocalValue → Network
with_input n d i v = record n { devices = put_input d i v n.devices }

abbrev pub join_fault : Network → NetDevice → Option NetFault
join_fault n x = or_fault
    (first_fault (
    (lives n x.id, fault.Twice)
    ∷ (nat_le MOST_DEVICES (length n.devices), fault.Devices)
    ∷ (not (nat_eq (length x.inputs) (length n.declared.inputs)), fault.NoInput)
    ∷ []))
    (inputs_fault n.declared.inputs x.inputs)

abbrev pub joined : Network → NetDevice → Network
joined n x = record n { devices = insert_device x n.devices }

abbrev pub leave_fault : Network → ℕ → Option NetFault
leave_fault n d = first_fault (
    (not (lives n d), fault.NoDevice)
    ∷ (nat_le (length n.devices) 1, fault.Last)
    ∷ [])

abbrev pub left : Network → ℕ → Network
left n d = record n { devices = drop_device d n.devices; links = drop_links d n.links }

-- ---- making a network

-- the first device, by its index, whose number an earlier one has
abbrev pub twice_fault : ℕ → List ℕ → List ℕ → Option MakeFault
twice_fault i before [] = None
twice_fault i before (d ∷ ds) =
    if is_in d before then Some (make.Net i fault.Twice) else twice_fault (i + 1) (before ++ d ∷ []) ds

-- the first device, by its index, with a value that doesn't fit its input
abbrev pub at_index : ℕ → Option NetFault → Option MakeFault → Option MakeFault
at_index i None rest = rest
at_index i (Some f) rest = Some (make.Net i f)

abbrev pub devices_fault : ℕ → List Input → List NetDevice → Option MakeFault
devices_fault i is [] = None
devices_fault i is (n ∷ ns) = at_index i (inputs_fault is n.inputs) (devices_fault (i + 1) is ns)

abbrev pub make_fault : Declarations → List NetDevice → Option MakeFault
make_fault D ns = if nat_eq (length ns) 0 || nat_lt MOST_DEVICES (length ns)
    then Some (make.Devices (length ns))
    else or_fault (twice_fault 0 [] (numbers ns)) (devices_fault 0 D.inputs ns)

abbrev pub made : Declarations → List NetDevice → Network
made D ns = record { declared = D; devices = in_order ns; links = [] }

-- what `new` refuses; want of memory comes only where nothing else is at fault
abbrev pub RefusesMake : Declarations → List NetDevice → MakeFault → Type 0
RefusesMake D ns (make.Net i f) = make_fault D ns ≡ Some (make.Net i f)
RefusesMake D ns (make.Devices count) = make_fault D ns ≡ Some (make.Devices count)
RefusesMake D ns make.Memory = make_fault D ns ≡ None

-- what `join` refuses; want of memory comes only where nothing else is at fault
abbrev pub RefusesJoin : Network → NetDevice → JoinFault → Type 0
RefusesJoin n x (join.Net f) = join_fault n x ≡ Some f
RefusesJoin n x join.Memory = join_fault n x ≡ None

-- each device has this many inputs
abbrev pub HaveInputs : ℕ → List NetDevice → Type 0
HaveInputs count [] = Unit {0}
HaveInputs count (n ∷ ns) = (length n.inputs ≡ count) × HaveInputs count ns

-- each device has a number that devices may have
abbrev pub HaveNumbers : List NetDevice → Type 0
HaveNumbers [] = Unit {0}
HaveNumbers (n ∷ ns) = (n.id ≤ GREATEST_NUMBER) × HaveNumbers ns
