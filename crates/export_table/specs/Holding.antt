-- What the lock holds.
use Rattle.std.specs.Prelude.{ℕ, suc, ◌≡◌, ◌+◌, ◌<◌, ◌≤◌, List, [], ◌∷◌, ◌++◌, length, map, take, is_none}
use Rattle.fc_values.specs.Trees.{Copy}
use Rattle.firing_core.specs.Entries.{EntryValue, BeginEntry, entries_of}
use Rattle.firing_core.specs.Cores.{Core, Run, copy_of}
use Rattle.firing_core.specs.CoreViews.{core_of}
use Rattle.firing_core.specs.Books.{BookValue, IsBook, IsSameBook, AppendsEntry}
use Rattle.firing_core.specs.declared.entries.Entry.{Entry}
use Rattle.topology.specs.Networks.{numbers}
use lib.ListN.{get_elem?}
use mathlib.Core.Option.{some}
use Rattle.fc_nodes.specs.Program.{unfolding_of}
use Rattle.turn_lock.specs.Logs.{IsUnanswered, StartsWith}
use Rattle.export_table.specs.Answers.{answers}
use Rattle.export_table.specs.Items.{Opening, ItemValue, WrittenItem, items_of}
use Rattle.export_table.specs.Begins.{IsNext, begun_in}
use Rattle.export_table.specs.declared.agenda.Row.{Row}
use Rattle.export_table.specs.Agendas.{AgendaValue}

-- a book, and what the table was opened with
pub record HeldValue : Type 0 where
  pub book : BookValue
  pub rounds : ℕ
  pub turns : ℕ
  pub front : ℕ

abbrev pub opening_of : BookValue → ℕ → ℕ → ℕ → Opening
opening_of b rounds turns front = record {
  program = b.program;
  start = b.start;
  rounds = rounds;
  turns = turns;
  front = front;
}

abbrev pub opening_in : HeldValue → Opening
opening_in h = opening_of h.book h.rounds h.turns h.front

abbrev pub log_in : HeldValue → List EntryValue
log_in h = entries_of h.book.log

abbrev pub core_in : HeldValue → Core
core_in h = core_of h.book.core

-- the list of the lock
abbrev pub list_of : HeldValue → List ItemValue
list_of h = items_of (opening_in h) (log_in h)

-- the row of a device: what it has begun, and whether it rests
abbrev pub row_of : Opening → List EntryValue → Core → ℕ → Row
row_of o log c d = record { device = d; begun = begun_in o log d; rests = is_none (c.flying d) }

-- the agenda has exactly the rows of the devices there, in their order
pub record Plans (o : Opening) (log : List EntryValue) (c : Core) (a : AgendaValue) : Type 0 where
  pub rounds : a.rounds ≡ o.rounds
  pub rows : a.rows ≡ map (row_of o log c) (numbers c.net.devices)

-- no device has begun more firings than it may
abbrev pub BeginsWithin : Opening → List EntryValue → Type 0
BeginsWithin o log = (d : ℕ) → d < 65536 → begun_in o log d ≤ o.rounds

-- each begin since the opening was of the smallest device that might begin then
abbrev pub EachIsNext : Opening → List EntryValue → Type 0
EachIsNext o log = (front : List EntryValue) (core : Core) (d : ℕ) → StartsWith log (front ++ BeginEntry d ∷ [])
    → o.front ≤ length front → Run (unfolding_of o.program) (core_of o.start) front core → IsNext o front core d

-- what the type keeps
pub record IsHeld (h : HeldValue) (a : AgendaValue) : Type 0 where
  pub past : h.front ≤ length h.book.log
  -- the log has room for all turns that are left
  pub room : h.front + h.turns ≤ length h.book.log + h.book.spare
  pub plans : Plans (opening_in h) (log_in h) (core_in h) a
  pub within : BeginsWithin (opening_in h) (log_in h)
  pub next : EachIsNext (opening_in h) (log_in h)

-- a table that was opened with a book: its log has so far only the entries of that book
pub record Opens (b : BookValue) (rounds turns : ℕ) (h : HeldValue) : Type 0 where
  pub book : IsSameBook b h.book
  pub rounds_are : h.rounds ≡ rounds
  pub turns_are : h.turns ≡ turns
  pub front_is : h.front ≡ length b.log

-- a turn is left
abbrev pub HasTurn : HeldValue → Type 0
HasTurn h = length h.book.log < h.front + h.turns

-- a turn wrote this entry, and the table is that of before
pub record Turned (old new : HeldValue) (e : Entry) : Type 0 where
  pub same : (new.rounds ≡ old.rounds) × (new.turns ≡ old.turns) × (new.front ≡ old.front)
  pub book : AppendsEntry old.book new.book e
  -- the log led to the old core, from a good start
  pub legal : IsBook old.book
  pub past : old.front ≤ length old.book.log

-- a device began at a place of the log, and nothing answers it
pub record IsOpenAt (h : HeldValue) (place d : ℕ) : Type 0 where
  pub began : get_elem? (list_of h) (suc place) ≡ some (WrittenItem (BeginEntry d))
  pub unanswered : IsUnanswered answers (list_of h) (suc place)

-- the copy that a begin takes at a place of the log
pub record IsTakenAt (o : Opening) (log : List EntryValue) (place : ℕ) (s : Copy) : Type 0 where
  pub core : Core
  pub leads : Run (unfolding_of o.program) (core_of o.start) (take place log) core
  pub copy : s ≡ copy_of core.net core.exports s.device
