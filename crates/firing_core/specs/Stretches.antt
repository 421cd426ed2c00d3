-- Stretches of a log: what the lines `run` and `mix` of a script make of a core.
use Rattle.std.specs.Prelude.{ℕ, Bool, false, ◌≡◌, ◌+◌, ◌≤◌, List, [], ◌∷◌, ◌++◌, nat_eq, if◌then◌else◌, None}
use Rattle.fc_nodes.specs.Program.{Unfolding, unfolding_of}
use Rattle.topology.specs.Networks.{Network, Lives, numbers}
use Rattle.firing_core.specs.Entries.{EditValue, LinkEdit, UnlinkEdit, SetEdit, PokeEdit, JoinEdit, LeaveEdit, EntryValue, BeginEntry, EndEntry, IdleEntry, EditEntry, entries_of}
use Rattle.firing_core.specs.Cores.{Core, Run}
use Rattle.firing_core.specs.CoreViews.{core_of}
use Rattle.firing_core.specs.Books.{BookValue}
use Rattle.firing_core.specs.Rounds.{has_edit, HasEnd, HasRounds}

abbrev pub is_begin : ℕ → EntryValue → Bool
is_begin d (BeginEntry e) = nat_eq e d
is_begin d (EndEntry e) = false
is_begin d IdleEntry = false
is_begin d (EditEntry e) = false

-- how many firings of a device a log begins
abbrev pub begins : ℕ → List EntryValue → ℕ
begins d [] = 0
begins d (e ∷ es) = if is_begin d e then begins d es + 1 else begins d es

-- each device of a network begins k firings
abbrev pub EachBegins : Network → List EntryValue → ℕ → Type 0
EachBegins n part k = (d : ℕ) → Lives n d → begins d part ≡ k

-- no device is in flight
abbrev pub NoneFlies : Core → Type 0
NoneFlies c = (d : ℕ) → c.flying d ≡ None

-- the smallest device of a network
pub record IsSmallest (n : Network) (d : ℕ) : Type 0 where
  pub there : Lives n d
  pub least : (e : ℕ) → Lives n e → d ≤ e

-- an edit that may stand among firings
abbrev pub IsMixed : EditValue → Type 0
IsMixed (LinkEdit a b w) = Unit {0}
IsMixed (UnlinkEdit a b) = Unit {0}
IsMixed (SetEdit d i v) = Unit {0}
IsMixed (PokeEdit d x) = Unit {0}
IsMixed (JoinEdit x) = ⊥
IsMixed (LeaveEdit d) = ⊥

-- A line `run` with a number of rounds: a run from a core without an edit, in which each device begins as many firings.
-- It has that many rounds, and nothing is in flight after it.
pub record RunStretch (U : Unfolding) (c : Core) (rounds : ℕ) (part : List EntryValue) (last : Core) : Type 0 where
  pub leads : Run U c part last
  pub plain : has_edit part ≡ false
  pub begun : EachBegins c.net part rounds
  pub covers : HasRounds (numbers c.net.devices) part rounds
  pub rests : NoneFlies last

-- A line `mix` with a number of rounds and an edit: a run from a core with this one edit, in which each device begins
-- one firing more than there are rounds. The first begin is of the smallest device, and the edit stands between it and
-- the next end of that device. What follows the edit has that many rounds, and nothing is in flight after it.
pub record MixStretch (U : Unfolding) (c : Core) (rounds : ℕ) (edit : EditValue) (part : List EntryValue) (last : Core)
    : Type 0 where
  pub leads : Run U c part last
  pub before : List EntryValue
  pub first : ℕ
  pub among : List EntryValue
  pub after : List EntryValue
  pub cut : part ≡ before ++ BeginEntry first ∷ among ++ EditEntry edit ∷ after
  pub smallest : IsSmallest c.net first
  pub none_before : (d : ℕ) → begins d before ≡ 0
  pub flies : HasEnd first among → ⊥
  pub plain_before : has_edit before ≡ false
  pub plain_among : has_edit among ≡ false
  pub plain_after : has_edit after ≡ false
  pub begun : EachBegins c.net part (rounds + 1)
  pub covers : HasRounds (numbers c.net.devices) after rounds
  pub rests : NoneFlies last

-- ---- of books

-- the log is extended by a stretch of this many rounds
pub record RanRounds (old : BookValue) (rounds : ℕ) (new : BookValue) : Type 0 where
  pub program : new.program ≡ old.program
  pub start : new.start ≡ old.start
  pub part : List EntryValue
  pub log : entries_of new.log ≡ entries_of old.log ++ part
  pub stretch : RunStretch (unfolding_of old.program) (core_of old.core) rounds part (core_of new.core)

-- the log is extended by a stretch with this edit among firings, and this many rounds after it
pub record MixedEdit (old : BookValue) (rounds : ℕ) (edit : EditValue) (new : BookValue) : Type 0 where
  pub program : new.program ≡ old.program
  pub start : new.start ≡ old.start
  pub part : List EntryValue
  pub log : entries_of new.log ≡ entries_of old.log ++ part
  pub stretch : MixStretch (unfolding_of old.program) (core_of old.core) rounds edit part (core_of new.core)
