-- What a table, and what the caller fires after it, add to a book.
use Rattle.std.specs.Prelude.{ℕ, ◌≡◌, ◌⊎◌, ◌<◌, ◌≤◌, List, [], ◌∷◌, ◌++◌, drop, get_or, false}
use Rattle.fc_nodes.specs.Program.{unfolding_of}
use Rattle.topology.specs.Networks.{Network, IsNetwork, Lives, numbers}
use Rattle.firing_core.specs.Entries.{EntryValue, BeginEntry, EndEntry, entries_of}
use Rattle.firing_core.specs.Cores.{Run}
use Rattle.firing_core.specs.CoreViews.{core_of}
use Rattle.firing_core.specs.Books.{BookValue}
use Rattle.firing_core.specs.Rounds.{has_edit}
use Rattle.firing_core.specs.Stretches.{begins, EachBegins, NoneFlies}
use Rattle.worker_pool.specs.Pacing.{InTurn}

-- the log has these entries more, none of which is an edit, and they lead on
pub record RanOn (old new : BookValue) (part : List EntryValue) : Type 0 where
  pub program : new.program ≡ old.program
  pub start : new.start ≡ old.start
  pub log : entries_of new.log ≡ entries_of old.log ++ part
  pub leads : Run (unfolding_of old.program) (core_of old.core) part (core_of new.core)
  pub plain : has_edit part ≡ false

-- each device of a network begins at most so many firings
abbrev pub AtMost : ℕ → Network → List EntryValue → Type 0
AtMost k n part = (d : ℕ) → Lives n d → begins d part ≤ k

-- a table let workers fire: devices began firings in turn, each at most so many
pub record FiredTogether (rounds : ℕ) (old new : BookValue) : Type 0 where
  pub network : IsNetwork old.core.net
  pub part : List EntryValue
  pub ran : RanOn old new part
  pub turns : InTurn (unfolding_of old.program) (numbers old.core.net.devices) [] (core_of old.core) part
      (core_of new.core)
  pub most : AtMost rounds (core_of old.core).net part

-- one device fired alone, and nothing flies
pub record FiredAlone (old : BookValue) (d : ℕ) (new : BookValue) : Type 0 where
  pub ran : RanOn old new (BeginEntry d ∷ EndEntry d ∷ [])
  pub rests : NoneFlies (core_of new.core)

-- nothing flies, and the device at a place of the network has fired alone, if it had begun fewer firings than so many
-- since a place of the log
pub record FiredIfShort (front rounds place : ℕ) (old new : BookValue) : Type 0 where
  pub part : List EntryValue
  pub ran : RanOn old new part
  pub rests : NoneFlies (core_of new.core)
  pub fired : let d = get_or (numbers old.core.net.devices) place 0 in
      let begun = begins d (drop front (entries_of old.log)) in
      ((rounds ≤ begun) × (part ≡ [])) ⊎ ((begun < rounds) × (part ≡ BeginEntry d ∷ EndEntry d ∷ []))

-- so many firings is the greatest number that a device has begun, or one where none has begun any
pub record IsGreatest (n : Network) (part : List EntryValue) (rounds : ℕ) : Type 0 where
  pub some : 1 ≤ rounds
  pub most : AtMost rounds n part
  pub least : (k : ℕ) → 1 ≤ k → AtMost k n part → rounds ≤ k

-- nothing flies, and each device has begun so many firings since a place of the log. Those after it began in turn
pub record Completes (front rounds : ℕ) (old new : BookValue) : Type 0 where
  pub part : List EntryValue
  pub ran : RanOn old new part
  pub rests : NoneFlies (core_of new.core)
  pub begun : EachBegins (core_of old.core).net (drop front (entries_of new.log)) rounds
  pub turns : InTurn (unfolding_of old.program) (numbers old.core.net.devices) (drop front (entries_of old.log))
      (core_of old.core) part (core_of new.core)
