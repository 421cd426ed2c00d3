-- What the calls of a shared table promise.
use Rattle.std.specs.Prelude.{ℕ, Bool, true, ◌≡◌, ◌↔◌, ◌+◌, ◌-◌, ◌<◌, ◌≤◌, List, length, drop, map, Some, None}
use Rattle.fc_nodes.specs.Program.{unfolding_of}
use Rattle.value_trees.specs.Snaps.{snap_copy, tree_of, IsSnap}
use Rattle.device_eval.specs.Firing.{FiredValue}
use Rattle.firing_core.specs.declared.entries.Entry.TheVariants as entry
use Rattle.firing_core.specs.declared.entries.Edit.{Edit}
use Rattle.firing_core.specs.declared.entries.EditFault.{EditFault}
use Rattle.firing_core.specs.Entries.{EditValue, EntryValue, BeginEntry, EndEntry, IdleEntry, EditEntry}
use Rattle.firing_core.specs.Entries.{edit_of, entries_of}
use Rattle.firing_core.specs.Cores.{Core, Run, copy_of, edit_fault}
use Rattle.firing_core.specs.CoreViews.{core_of}
use Rattle.firing_core.specs.Books.{BookValue}
use Rattle.firing_core.specs.Refusals.{RefusesEdit}
use Rattle.firing_core.specs.Rooms.{RoomValue}
use Rattle.turn_lock.specs.Logs.{StartsWith, In, Rises, ArePlaced}
use Rattle.turn_lock.specs.Passes.{PassView, wrote}
use Rattle.export_table.specs.declared.firing.Pause.{Pause}
use Rattle.export_table.specs.declared.firing.Pause.TheVariants as pause
use Rattle.export_table.specs.Items.{Opening, ItemValue}
use Rattle.export_table.specs.Begins.{IsNext, NoneMayBegin, AllBegun}
use Rattle.export_table.specs.Holding.{HeldValue, HasTurn, Turned, IsOpenAt, IsTakenAt, opening_in, log_in, core_in}
use Rattle.export_table.specs.Firings.{FiringValue, IsCopyAt}

-- ---- what a turn does to the locked value

-- it begins this firing
pub record Begins (old new : HeldValue) (f : FiringValue) : Type 0 where
  pub turned : Turned old new (entry.Begin f.device)
  pub place : f.place ≡ length old.book.log
  pub next : IsNext (opening_in old) (log_in old) (core_in old) f.device
  pub copy : snap_copy (unfolding_of old.book.program) f.snap ≡ copy_of (core_in old).net (core_in old).exports f.device
  pub snap : IsSnap (unfolding_of old.book.program) f.snap

-- it begins nothing, since nothing may begin now; and it says whether each device has begun all its firings
pub record Rests (old new : HeldValue) (is_over : Bool) : Type 0 where
  pub turned : Turned old new entry.Idle
  pub none : NoneMayBegin (opening_in old) (log_in old) (core_in old)
  pub over : (is_over ≡ true) ↔ AllBegun (opening_in old) (log_in old) (core_in old)

-- it begins nothing: since nothing may begin now, or for want of memory
abbrev pub Pauses : HeldValue → HeldValue → Pause → Type 0
Pauses old new (pause.Rests r) = Rests old new r.is_over
Pauses old new pause.Starved = Turned old new entry.Idle

-- the room that was given comes back where nothing may begin
abbrev pub GivesBack : RoomValue → Pause → Type 0
GivesBack room (pause.Rests r) = r.room ≡ room
GivesBack room pause.Starved = Unit {0}

-- it may end this firing
pub record MayEnd (h : HeldValue) (place : ℕ) (f : FiredValue) : Type 0 where
  pub turn : HasTurn h
  pub program : f.program ≡ h.book.program
  pub opened : IsOpenAt h place f.snap.device
  pub copy : IsTakenAt (opening_in h) (log_in h) place (snap_copy (unfolding_of h.book.program) f.snap)

-- it ends this firing
pub record EndsIn (old new : HeldValue) (f : FiredValue) : Type 0 where
  pub turned : Turned old new (entry.End f.snap.device)
  pub publishes : (core_in new).exports f.snap.device ≡ Some (tree_of (unfolding_of old.book.program) f.export)

-- it edits the book
pub record EditsIn (old new : HeldValue) (e : Edit) : Type 0 where
  pub turned : Turned old new (entry.Edit e)
  pub allowed : edit_fault (core_in old) (edit_of e) ≡ None

-- it edits nothing, since the core refuses it
pub record RefusesIn (old new : HeldValue) (e : EditValue) (f : EditFault) : Type 0 where
  pub turned : Turned old new entry.Idle
  pub refused : RefusesEdit (core_in old) e f

-- ---- what a turn does to a pass

-- After a turn of the pass v one turn less is left, and all that no entry changes stays.
pub record IsAfterTurn (v w : PassView ItemValue) : Type 0 where
  pub left : w.left ≡ v.left - 1
  pub name : w.name ≡ v.name
  pub made : w.made ≡ v.made
  pub out : w.out ≡ v.out

-- The pass v is w after its turn. The log was `before` then, which leads to `core`; it begins with what the pass had
-- seen, has grown by at most the turns that the pass doesn't have left, and got the one entry e.
pub record TookTurn (o : Opening) (v w : PassView EntryValue) (before : List EntryValue) (core : Core) (e : EntryValue)
    : Type 0 where
  pub begins : StartsWith before v.seen
  pub placed : ArePlaced before v.mine
  pub grown : length before + v.left ≤ o.front + o.turns
  pub leads : Run (unfolding_of o.program) (core_of o.start) before core
  pub view : w ≡ wrote v before e

-- it began this firing, of the smallest device that might begin
pub record Began (o : Opening) (v w : PassView EntryValue) (f : FiringValue) : Type 0 where
  pub before : List EntryValue
  pub core : Core
  pub turn : TookTurn o v w before core (BeginEntry f.device)
  pub place : f.place ≡ length before
  pub next : IsNext o before core f.device
  pub copy : snap_copy (unfolding_of o.program) f.snap ≡ copy_of core.net core.exports f.device
  pub snap : IsSnap (unfolding_of o.program) f.snap

-- it began nothing, since no device might begin then; and it said whether each device had begun all its firings
pub record Rested (o : Opening) (v w : PassView EntryValue) (is_over : Bool) : Type 0 where
  pub before : List EntryValue
  pub core : Core
  pub turn : TookTurn o v w before core IdleEntry
  pub none : NoneMayBegin o before core
  pub over : (is_over ≡ true) ↔ AllBegun o before core

-- it began nothing, for want of memory
pub record Idled (o : Opening) (v w : PassView EntryValue) : Type 0 where
  pub before : List EntryValue
  pub core : Core
  pub turn : TookTurn o v w before core IdleEntry

-- it began nothing, for one of these causes
abbrev pub Paused : Opening → PassView EntryValue → PassView EntryValue → Pause → Type 0
Paused o v w (pause.Rests r) = Rested o v w r.is_over
Paused o v w pause.Starved = Idled o v w

-- A firing that the pass may end: it began it at this place, it didn't end it since, and what was evaluated is the copy
-- that was taken there.
pub record IsOwnFiring (o : Opening) (v : PassView EntryValue) (place : ℕ) (f : FiredValue) : Type 0 where
  pub begun : In (place, BeginEntry f.snap.device) v.mine
  pub unended : (q : ℕ) → In (q, EndEntry f.snap.device) v.mine → q < place
  pub program : f.program ≡ o.program
  pub copy : IsCopyAt o v.seen place (snap_copy (unfolding_of o.program) f.snap)

-- the copy of a firing is one of the program, and the pass may end the firing with whatever is evaluated of it
pub record CanEnd (o : Opening) (v : PassView EntryValue) (f : FiringValue) : Type 0 where
  pub snap : IsSnap (unfolding_of o.program) f.snap
  pub own : (e : FiredValue) → e.program ≡ o.program → e.snap ≡ f.snap → IsOwnFiring o v f.place e

-- each firing that the pass may end stays one
abbrev pub KeepsFirings : Opening → PassView EntryValue → PassView EntryValue → Type 0
KeepsFirings o v w = (place : ℕ) (f : FiredValue) → IsOwnFiring o v place f → IsOwnFiring o w place f

-- a firing that a pass may end stays one at each other turn of the pass
abbrev pub FiringsStay : Type 0
FiringsStay = (o : Opening) (v w : PassView EntryValue) (before : List EntryValue) (core : Core) (e : EntryValue)
    (place : ℕ) (f : FiredValue)
    → TookTurn o v w before core e → (e ≡ EndEntry f.snap.device → ⊥) → IsOwnFiring o v place f
    → IsOwnFiring o w place f

-- it ended this firing, and so published its export
pub record Ended (o : Opening) (v w : PassView EntryValue) (f : FiredValue) : Type 0 where
  pub before : List EntryValue
  pub core : Core
  pub next : Core
  pub turn : TookTurn o v w before core (EndEntry f.snap.device)
  pub leads : Run (unfolding_of o.program) (core_of o.start) w.seen next
  pub publishes : next.exports f.snap.device ≡ Some (tree_of (unfolding_of o.program) f.export)

-- it edited the book, and the core allowed it
pub record Edited (o : Opening) (v w : PassView EntryValue) (e : EditValue) : Type 0 where
  pub before : List EntryValue
  pub core : Core
  pub turn : TookTurn o v w before core (EditEntry e)
  pub allowed : edit_fault core e ≡ None

-- it edited nothing, since the core refused it
pub record Refused (o : Opening) (v w : PassView EntryValue) (e : EditValue) (f : EditFault) : Type 0 where
  pub before : List EntryValue
  pub core : Core
  pub turn : TookTurn o v w before core IdleEntry
  pub refused : RefusesEdit core e f

-- ---- the end of a table

-- The table gave back the book: its log begins with what the last pass had seen, and past the opening it is exactly the
-- entries of that pass, in order, each at its place.
pub record Closes (o : Opening) (v : PassView EntryValue) (b : BookValue) : Type 0 where
  pub program : b.program ≡ o.program
  pub start : b.start ≡ o.start
  pub begins : StartsWith (entries_of b.log) v.seen
  pub placed : ArePlaced (entries_of b.log) v.mine
  pub counted : length b.log ≡ o.front + length v.mine
  pub whole : drop o.front (entries_of b.log) ≡ map (λ (z : ℕ × EntryValue). z.1) v.mine
  pub rises : Rises v.mine
