-- Passes to a shared table, as passes over the log of its book.
use Rattle.std.specs.Prelude.{ℕ, zero, suc, ◌≡◌, List, [], ◌∷◌, map}
use Rattle.atomic_table.specs.Seated.{TableId}
use Rattle.turn_lock.specs.Passes.{PassView}
use Rattle.firing_core.specs.Entries.{EntryValue, IdleEntry}
use Rattle.export_table.specs.Items.{Opening, ItemValue, OpeningItem, WrittenItem, items_of}

-- a shared table: its lock, and what it was opened with
pub record TableValue : Type 0 where
  pub lock : TableId
  pub opening : Opening

-- the entry that an item is. An opening is none
abbrev pub written : ItemValue → EntryValue
written (OpeningItem o) = IdleEntry
written (WrittenItem e) = e

abbrev pub behind_first : List ItemValue → List ItemValue
behind_first [] = []
behind_first (x ∷ xs) = xs

abbrev pub one_less : ℕ → ℕ
one_less zero = zero
one_less (suc n) = n

abbrev pub written_at : ℕ × ItemValue → ℕ × EntryValue
written_at z = (one_less z.0, written z.1)

-- A pass over the log of the book: what it has seen is that of the lock without the opening, and places count from the
-- first entry of the log.
abbrev pub on_log : PassView ItemValue → PassView EntryValue
on_log v = record {
  lock = v.lock;
  name = v.name;
  left = v.left;
  seen = map written (behind_first v.seen);
  mine = map written_at v.mine;
  made = v.made;
  out = v.out;
  turns = v.turns;
  start = one_less v.start;
}

abbrev pub item_at_next : ℕ × EntryValue → ℕ × ItemValue
item_at_next z = (suc z.0, WrittenItem z.1)

-- the pass to the lock that a pass over the log stands for, where the table was opened so
abbrev pub on_items : Opening → PassView EntryValue → PassView ItemValue
on_items o v = record {
  lock = v.lock;
  name = v.name;
  left = v.left;
  seen = items_of o v.seen;
  mine = map item_at_next v.mine;
  made = v.made;
  out = v.out;
  turns = v.turns;
  start = suc v.start;
}

-- a pass of a table: it is one to its lock, and has seen its opening
pub record IsPassOf (t : TableValue) (v : PassView ItemValue) : Type 0 where
  pub lock : v.lock ≡ t.lock
  pub opening : v ≡ on_items t.opening (on_log v)
  pub turns : v.turns ≡ t.opening.turns
  pub start : (on_log v).start ≡ t.opening.front
