-- Cores and their steps.
use Rattle.std.specs.Prelude.{ℕ, ◌≡◌, ◌≤◌, not, List, [], ◌∷◌, length, Option, Some, None, is_some, nat_eq, nat_le, if◌then◌else◌}
use Rattle.fc_values.specs.Trees.{TreeExport, NearCopy, Copy}
use Rattle.fc_nodes.specs.Program.{Unfolding}
use Rattle.fc_nodes.specs.Flat.{IsWellTyped, IsExport, tree_export}
use Rattle.value_trees.specs.Copies.{FitsCopy}
use Rattle.topology.specs.declared.types.TheConstants.{GREATEST_NUMBER}
use Rattle.device_eval.specs.Copies.{EvaluatesCopy}
use Rattle.topology.specs.declared.types.NetFault.{NetFault}
use Rattle.topology.specs.declared.types.NetFault.TheVariants as fault
use Rattle.topology.specs.Networks.{Network, IsNetwork, lives, Lives, inputs_in, near}
use Rattle.topology.specs.Changes.{first_fault, link_fault, linked, unlink_fault, unlinked, set_fault, with_input, join_fault, joined, left}
use Rattle.firing_core.specs.Entries.{EditValue, LinkEdit, UnlinkEdit, SetEdit, PokeEdit, JoinEdit}
use Rattle.firing_core.specs.Entries.{LeaveEdit, EntryValue, BeginEntry, EndEntry, IdleEntry, EditEntry}

-- a finite map from devices, read by look-up
abbrev pub Map : Type 0 → Type 0
Map X = ℕ → Option X

abbrev pub put : {X : Type 0} → Map X → ℕ → Option X → Map X
put f d v e = if nat_eq e d then v else f e

-- a core: a network, the exports of its devices, and the copies in flight
pub record Core : Type 0 where
  pub net : Network
  pub exports : Map TreeExport
  pub flying : Map Copy

-- the neighbours that have an export in a table, with it
abbrev pub near_with : ℕ × ℕ → Option TreeExport → List NearCopy → List NearCopy
near_with n None cs = cs
near_with n (Some e) cs = record { device = n.0; weight = n.1; export = e } ∷ cs

abbrev pub near_copies : Map TreeExport → List (ℕ × ℕ) → List NearCopy
near_copies table [] = []
near_copies table (n ∷ ns) = near_with n (table n.0) (near_copies table ns)

-- the copy that a begin of a device takes, from a network and a table of exports
abbrev pub copy_of : Network → Map TreeExport → ℕ → Copy
copy_of n table d =
    record { device = d; inputs = inputs_in d n.devices; own = table d; near = near_copies table (near n d) }

-- the core after a begin that takes its copy from a table, and after an end
abbrev pub begun : Map TreeExport → Core → ℕ → Core
begun table c d = record { net = c.net; exports = c.exports; flying = put c.flying d (Some (copy_of c.net table d)) }

abbrev pub ended : Core → ℕ → TreeExport → Core
ended c d e = record { net = c.net; exports = put c.exports d (Some e); flying = put c.flying d None }

-- an end of a device that flies with a copy publishes the export of that copy
pub record Ends (U : Unfolding) (c : Core) (d : ℕ) (next : Core) : Type 0 where
  pub copy : Copy
  pub export : TreeExport
  pub flies : c.flying d ≡ Some copy
  pub evaluates : EvaluatesCopy U copy export
  pub after : next ≡ ended c d export

-- ---- edits

-- why an edit has no step. A device in flight can't leave
abbrev pub edit_fault : Core → EditValue → Option NetFault
edit_fault c (LinkEdit a b w) = link_fault c.net a b w
edit_fault c (UnlinkEdit a b) = unlink_fault c.net a b
edit_fault c (SetEdit d i v) = set_fault c.net d i v
edit_fault c (PokeEdit d e) = first_fault ((not (lives c.net d), fault.NoDevice) ∷ [])
edit_fault c (JoinEdit x) = join_fault c.net x
edit_fault c (LeaveEdit d) = first_fault (
    (not (lives c.net d), fault.NoDevice)
    ∷ (is_some (c.flying d), fault.InFlight)
    ∷ (nat_le (length c.net.devices) 1, fault.Last)
    ∷ [])

-- a poked export is one of the program, and a joined device has a number that a device can have
abbrev pub EditFits : Unfolding → EditValue → Type 0
EditFits U (LinkEdit a b w) = Unit {0}
EditFits U (UnlinkEdit a b) = Unit {0}
EditFits U (SetEdit d i v) = Unit {0}
EditFits U (PokeEdit d e) = IsExport U e
EditFits U (JoinEdit x) = x.id ≤ GREATEST_NUMBER
EditFits U (LeaveEdit d) = Unit {0}

abbrev pub on_net : Core → Network → Core
on_net c n = record { net = n; exports = c.exports; flying = c.flying }

-- the core after an edit. Copies in flight stay
abbrev pub edited : Unfolding → Core → EditValue → Core
edited U c (LinkEdit a b w) = on_net c (linked c.net a b w)
edited U c (UnlinkEdit a b) = on_net c (unlinked c.net a b)
edited U c (SetEdit d i v) = on_net c (with_input c.net d i v)
edited U c (PokeEdit d e) =
    record { net = c.net; exports = put c.exports d (Some (tree_export U e)); flying = c.flying }
edited U c (JoinEdit x) =
    record { net = joined c.net x; exports = put c.exports x.id None; flying = put c.flying x.id None }
edited U c (LeaveEdit d) = record { net = left c.net d; exports = put c.exports d None; flying = c.flying }

-- an edit that the core allows
pub record Edits (U : Unfolding) (c : Core) (e : EditValue) (next : Core) : Type 0 where
  pub fits : EditFits U e
  pub allowed : edit_fault c e ≡ None
  pub after : next ≡ edited U c e

-- ---- steps

-- one step, where a begin of device d takes its copy from the table `sees d`; over message links each has its own
abbrev pub StepSeeing : Unfolding → (ℕ → Map TreeExport) → Core → EntryValue → Core → Type 0
StepSeeing U sees c (BeginEntry d) next = Lives c.net d × (c.flying d ≡ None) × (next ≡ begun (sees d) c d)
StepSeeing U sees c (EndEntry d) next = Ends U c d next
StepSeeing U sees c IdleEntry next = next ≡ c
StepSeeing U sees c (EditEntry e) next = Edits U c e next

-- one step: a begin takes its copy from the core's own exports
abbrev pub Step : Unfolding → Core → EntryValue → Core → Type 0
Step U c e next = StepSeeing U (λ d. c.exports) c e next

-- the entries of a log lead from a core to a core, one step each
abbrev pub Run : Unfolding → Core → List EntryValue → Core → Type 0
Run U c [] last = last ≡ c
Run U c (e ∷ es) last = (next : Core) × Step U c e next × Run U next es last

-- an export of a device that is there, and well-typed
pub record GoodExport (U : Unfolding) (n : Network) (d : ℕ) (e : TreeExport) : Type 0 where
  pub there : Lives n d
  pub typed : IsWellTyped U e

-- a copy in flight: of a device that is there, which it names, and it fits
pub record GoodFlight (U : Unfolding) (n : Network) (d : ℕ) (s : Copy) : Type 0 where
  pub there : Lives n d
  pub names : s.device ≡ d
  pub fits : FitsCopy U s

-- A core of a program: its network is one, with the program's declarations, exports are well-typed and copies in flight
-- fit. Exports may be missing, and a copy may hold inputs, weights and neighbours that the network doesn't have.
pub record IsGood (U : Unfolding) (c : Core) : Type 0 where
  pub net : IsNetwork c.net
  pub declared : c.net.declared ≡ U.declared
  pub exports : (d : ℕ) (e : TreeExport) → c.exports d ≡ Some e → GoodExport U c.net d e
  pub flying : (d : ℕ) (s : Copy) → c.flying d ≡ Some s → GoodFlight U c.net d s
