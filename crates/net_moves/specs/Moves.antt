-- The networks that a log leads through, and rounds of logs with edits.
use Rattle.std.specs.Prelude.{ℕ, zero, suc, Bool, true, false, ◌≡◌, ◌⊎◌, List, [], ◌∷◌, ◌++◌}
use Rattle.fc_values.specs.Fields.{is_in}
use Rattle.topology.specs.Networks.{Network, lives, Lives}
use Rattle.topology.specs.Changes.{linked, unlinked, with_input, joined, left}
use Rattle.firing_core.specs.Entries.{EditValue, LinkEdit, UnlinkEdit, SetEdit, PokeEdit, JoinEdit, LeaveEdit}
use Rattle.firing_core.specs.Entries.{EntryValue, BeginEntry, EndEntry, IdleEntry, EditEntry}
use Rattle.firing_core.specs.Rounds.{HasFiring}

-- the network after an edit, after an entry, and after a log
abbrev pub net_edited : Network → EditValue → Network
net_edited n (LinkEdit a b w) = linked n a b w
net_edited n (UnlinkEdit a b) = unlinked n a b
net_edited n (SetEdit d i v) = with_input n d i v
net_edited n (PokeEdit d e) = n
net_edited n (JoinEdit x) = joined n x
net_edited n (LeaveEdit d) = left n d

abbrev pub net_next : Network → EntryValue → Network
net_next n (BeginEntry d) = n
net_next n (EndEntry d) = n
net_next n IdleEntry = n
net_next n (EditEntry e) = net_edited n e

abbrev pub net_after : Network → List EntryValue → Network
net_after n [] = n
net_after n (e ∷ es) = net_after (net_next n e) es

abbrev pub is_poke : EntryValue → Bool
is_poke (BeginEntry d) = false
is_poke (EndEntry d) = false
is_poke IdleEntry = false
is_poke (EditEntry (LinkEdit a b w)) = false
is_poke (EditEntry (UnlinkEdit a b)) = false
is_poke (EditEntry (SetEdit d i v)) = false
is_poke (EditEntry (PokeEdit d e)) = true
is_poke (EditEntry (JoinEdit x)) = false
is_poke (EditEntry (LeaveEdit d)) = false

-- the networks that are allowed
abbrev pub Allowed : Type 1
Allowed = Network → Type 0

-- the network, and the one after each entry of a log, is allowed, and no entry pokes
abbrev pub Stays : Allowed → Network → List EntryValue → Type 0
Stays In n [] = In n
Stays In n (e ∷ es) = In n × (is_poke e ≡ false) × Stays In (net_next n e) es

-- a device is there from the beginning of a stretch of a log to its end
abbrev pub IsThere : ℕ → Network → List EntryValue → Type 0
IsThere d n [] = Lives n d
IsThere d n (e ∷ es) = Lives n d × IsThere d (net_next n e) es

-- or it isn't at some moment
abbrev pub IsAway : ℕ → Network → List EntryValue → Type 0
IsAway d n [] = lives n d ≡ false
IsAway d n (e ∷ es) = (lives n d ≡ false) ⊎ IsAway d (net_next n e) es

-- a stretch in which each device fires that is there all the time
abbrev pub CoversThere : Network → List EntryValue → Type 0
CoversThere n part = (d : ℕ) → IsThere d n part → HasFiring d part

-- a log that splits into k such stretches and a rest. Edits may stand anywhere
abbrev pub HasRoundsThere : Network → List EntryValue → ℕ → Type 0
HasRoundsThere n log zero = Unit {0}
HasRoundsThere n log (suc k) =
    (part : List EntryValue) × (rest : List EntryValue)
    × (log ≡ part ++ rest) × CoversThere n part × HasRoundsThere (net_after n part) rest k

-- ---- the same, of some devices: each of them fires, or isn't there at some moment

abbrev pub CoversAmong : List ℕ → Network → List EntryValue → Type 0
CoversAmong ds n part = (d : ℕ) → is_in d ds ≡ true → HasFiring d part ⊎ IsAway d n part

abbrev pub HasRoundsAmong : List ℕ → Network → List EntryValue → ℕ → Type 0
HasRoundsAmong ds n log zero = Unit {0}
HasRoundsAmong ds n log (suc k) =
    (part : List EntryValue) × (rest : List EntryValue)
    × (log ≡ part ++ rest) × CoversAmong ds n part × HasRoundsAmong ds (net_after n part) rest k
