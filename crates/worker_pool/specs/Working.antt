-- What workers do to their passes, and the rooms that they keep.
use Rattle.std.specs.Prelude.{ℕ, ◌≡◌, ◌⊎◌, ◌*◌, ◌^◌, ◌<◌, ◌≤◌, false, List, [], ◌∷◌, length, Option, IfSome}
use Rattle.fc_nodes.specs.Program.{Unfolding, unfolding_of}
use Rattle.firing_core.specs.Entries.{EntryValue, EndEntry}
use Rattle.firing_core.specs.Cores.{Core}
use Rattle.firing_core.specs.Rooms.{RoomValue, IsRoom}
use Rattle.firing_core.specs.Rounds.{is_edit}
use Rattle.turn_lock.specs.Logs.{StartsWith, In}
use Rattle.turn_lock.specs.Passes.{PassView}
use Rattle.export_table.specs.Items.{Opening, ItemValue}
use Rattle.export_table.specs.Firings.{FiringValue}
use Rattle.worker_pool.specs.declared.workers.Try.{Try}
use Rattle.worker_pool.specs.declared.workers.Try.TheVariants as try
use Rattle.export_table.specs.Passing.{TableValue, IsPassOf, on_log}
use Rattle.export_table.specs.Turns.{TookTurn}

-- The pass v is w after turns without an edit. It has seen more, and every pass that was split off came back.
pub record FiredOn (v w : PassView EntryValue) : Type 0 where
  pub name : w.name ≡ v.name
  pub out : w.out ≡ v.out
  pub begins : StartsWith w.seen v.seen
  pub plain : (p : ℕ) (e : EntryValue) → In (p, e) w.mine → In (p, e) v.mine ⊎ (is_edit e ≡ false)

-- a room that may be kept is one of a table's program
abbrev pub KeepsRoom : TableValue → Option RoomValue → Type 0
KeepsRoom t r = IfSome r (IsRoom (unfolding_of t.opening.program))

-- what comes back of a try to fire has a room of a table's program
abbrev pub Tries : TableValue → Try → Type 0
Tries t (try.Fired room) = IsRoom (unfolding_of t.opening.program) room
Tries t (try.Rested rest) = IsRoom (unfolding_of t.opening.program) rest.room
Tries t try.Starved = Unit {0}

-- each room that is kept is one of the program
abbrev pub AreRooms : Unfolding → List (Option RoomValue) → Type 0
AreRooms U [] = Unit {0}
AreRooms U (r ∷ rs) = IfSome r (IsRoom U) × AreRooms U rs

-- a pass of a table after turns without an edit is one of it
pub record Worked (t : TableValue) (v w : PassView ItemValue) : Type 0 where
  pub own : IsPassOf t w
  pub fired : FiredOn (on_log v) (on_log w)

-- a pass of a table has turns for some workers, so many for each, and there is a place for the room of each
pub record Staffed (t : TableValue) (v : PassView ItemValue) (rs : List (Option RoomValue)) (share : ℕ) : Type 0 where
  pub own : IsPassOf t v
  pub rooms : AreRooms (unfolding_of t.opening.program) rs
  pub some : 0 < length rs
  pub enough : length rs * share ≤ v.left
  pub few : length rs * share < 2 ^ 32

-- the workers have worked, and their rooms are kept
pub record StaffWorked (t : TableValue) (v w : PassView ItemValue) (rs new : List (Option RoomValue)) : Type 0 where
  pub worked : Worked t v w
  pub rooms : AreRooms (unfolding_of t.opening.program) new
  pub many : length new ≡ length rs

-- a pass took a turn that ended this firing
pub record EndsFiring (o : Opening) (v w : PassView EntryValue) (f : FiringValue) : Type 0 where
  pub before : List EntryValue
  pub core : Core
  pub turn : TookTurn o v w before core (EndEntry f.snap.device)
