-- Which device may begin.
use Rattle.std.specs.Prelude.{ℕ, Bool, false, ◌≡◌, ◌<◌, ◌≤◌, ◌||◌, List, [], ◌∷◌, drop, nat_eq, if◌then◌else◌, None}
use Rattle.topology.specs.Networks.{Lives}
use Rattle.firing_core.specs.Entries.{EditValue, LinkEdit, UnlinkEdit, SetEdit, PokeEdit, JoinEdit, LeaveEdit}
use Rattle.firing_core.specs.Entries.{EntryValue, BeginEntry, EndEntry, IdleEntry, EditEntry}
use Rattle.firing_core.specs.Cores.{Core}
use Rattle.firing_core.specs.Stretches.{begins}
use Rattle.export_table.specs.Items.{Opening}

abbrev pub joins : ℕ → EditValue → Bool
joins d (LinkEdit a b w) = false
joins d (UnlinkEdit a b) = false
joins d (SetEdit e i v) = false
joins d (PokeEdit e x) = false
joins d (JoinEdit x) = nat_eq x.id d
joins d (LeaveEdit e) = false

-- the device joins by this entry
abbrev pub is_join : ℕ → EntryValue → Bool
is_join d (BeginEntry e) = false
is_join d (EndEntry e) = false
is_join d IdleEntry = false
is_join d (EditEntry e) = joins d e

abbrev pub has_join : ℕ → List EntryValue → Bool
has_join d [] = false
has_join d (e ∷ es) = is_join d e || has_join d es

-- the part of a log after the last join of a device; the whole log if it doesn't join in it
abbrev pub since_join : ℕ → List EntryValue → List EntryValue
since_join d [] = []
since_join d (e ∷ es) = if has_join d es then since_join d es else (if is_join d e then es else e ∷ es)

-- how many firings a device has begun since the opening or since its last join, whichever is later
abbrev pub begun_in : Opening → List EntryValue → ℕ → ℕ
begun_in o log d = begins d (since_join d (drop o.front log))

-- No device there is behind the device d: none has begun fewer firings, and none that has begun as many is in flight.
-- So each has ended as many firings as d has begun, and rounds don't overlap.
abbrev pub KeepsPace : Opening → List EntryValue → Core → ℕ → Type 0
KeepsPace o log c d = (e : ℕ) → Lives c.net e
    → (begun_in o log d ≤ begun_in o log e) × (begun_in o log e ≡ begun_in o log d → c.flying e ≡ None)

-- A device that may begin: it is there, isn't in flight, hasn't begun all its firings, and no other is behind it.
pub record MayBegin (o : Opening) (log : List EntryValue) (c : Core) (d : ℕ) : Type 0 where
  pub there : Lives c.net d
  pub rests : c.flying d ≡ None
  pub some : begun_in o log d < o.rounds
  pub pace : KeepsPace o log c d

-- the smallest device that may begin
pub record IsNext (o : Opening) (log : List EntryValue) (c : Core) (d : ℕ) : Type 0 where
  pub may : MayBegin o log c d
  pub smallest : (e : ℕ) → e < d → MayBegin o log c e → ⊥

-- no device may begin now
abbrev pub NoneMayBegin : Opening → List EntryValue → Core → Type 0
NoneMayBegin o log c = (d : ℕ) → MayBegin o log c d → ⊥

-- each device there has begun all its firings
abbrev pub AllBegun : Opening → List EntryValue → Core → Type 0
AllBegun o log c = (d : ℕ) → Lives c.net d → o.rounds ≤ begun_in o log d
