-- Which entry answers which: an end answers the last begin of its device before it.
use Rattle.std.specs.Prelude.{ℕ, ◌+◌, List, [], ◌∷◌, take, Option, Some, None, nat_eq, if◌then◌else◌, zero, suc}
use Rattle.firing_core.specs.Entries.{EntryValue, BeginEntry, EndEntry, IdleEntry, EditEntry}
use Rattle.export_table.specs.Items.{ItemValue, OpeningItem, WrittenItem}

-- the place of the last begin of d, after an item at place n
abbrev pub after_entry : ℕ → ℕ → Option ℕ → EntryValue → Option ℕ
after_entry d n was (BeginEntry e) = if nat_eq e d then Some n else was
after_entry d n was (EndEntry e) = was
after_entry d n was IdleEntry = was
after_entry d n was (EditEntry e) = was

abbrev pub after_item : ℕ → ℕ → Option ℕ → ItemValue → Option ℕ
after_item d n was (OpeningItem o) = was
after_item d n was (WrittenItem e) = after_entry d n was e

-- the place of the last begin of d in a list, the first item of which stands at place n
abbrev pub begun_from : ℕ → ℕ → Option ℕ → List ItemValue → Option ℕ
begun_from d n was [] = was
begun_from d n was (x ∷ xs) = begun_from d (n + 1) (after_item d n was x) xs

abbrev pub last_begin : ℕ → List ItemValue → Option ℕ
last_begin d items = begun_from d 0 None items

-- the place that an entry right after these items answers, if any
abbrev pub entry_answers : List ItemValue → EntryValue → Option ℕ
entry_answers before (BeginEntry d) = None
entry_answers before (EndEntry d) = last_begin d before
entry_answers before IdleEntry = None
entry_answers before (EditEntry e) = None

abbrev pub item_answers : List ItemValue → Option ItemValue → Option ℕ
item_answers before None = None
item_answers before (Some (OpeningItem o)) = None
item_answers before (Some (WrittenItem e)) = entry_answers before e

abbrev pub item_at : List ItemValue → ℕ → Option ItemValue
item_at [] j = None
item_at (x ∷ xs) zero = Some x
item_at (x ∷ xs) (suc j) = item_at xs j

-- which place the item at a place of a list answers, if any
abbrev pub answers : List ItemValue → ℕ → Option ℕ
answers items j = item_answers (take j items) (item_at items j)
