-- The list that the lock keeps: an opening in front, and then the log of the book.
use Rattle.std.specs.Prelude.{ℕ, List, ◌∷◌, map}
use Rattle.fc_nodes.specs.Program.{Program}
use Rattle.firing_core.specs.Entries.{EntryValue}
use Rattle.firing_core.specs.CoreViews.{CoreValue}

-- What a table is opened with: a program, the core that the log starts from, how many firings each device may begin,
-- how many turns there are, and the length of the log then.
pub record Opening : Type 0 where
  pub program : Program
  pub start : CoreValue
  pub rounds : ℕ
  pub turns : ℕ
  pub front : ℕ

-- an item of the lock's list
pub data ItemValue : Type 0 where
  OpeningItem : Opening → ItemValue
  WrittenItem : EntryValue → ItemValue

abbrev pub items_of : Opening → List EntryValue → List ItemValue
items_of o log = OpeningItem o ∷ map WrittenItem log
