-- What an edit changes in an agenda.
use Rattle.std.specs.Prelude.{ℕ, false, ◌≡◌, ◌<◌, ◌≤◌, List, length, nat_lt, slice_index}
use Rattle.std.specs.List.{insert, remove, prefix_len}
use Rattle.fc_values.specs.Fields.{is_in}
use Rattle.topology.specs.Networks.{NetDevice, numbers}
use Rattle.firing_core.specs.Entries.{EditValue, LinkEdit, UnlinkEdit, SetEdit, PokeEdit, JoinEdit, LeaveEdit}
use Rattle.export_table.specs.declared.agenda.Row.{Row}
use Rattle.export_table.specs.declared.agenda.Change.{Change}
use Rattle.export_table.specs.declared.agenda.Change.TheVariants as change
use Rattle.export_table.specs.Agendas.{AgendaValue, first_row}

-- what the leave of a device changes: its row goes, if the device is there
abbrev pub IsLeave : List NetDevice → ℕ → Change → Type 0
IsLeave ns d (change.Join place e) = ⊥
IsLeave ns d (change.Leave place) = (place < length ns) × (slice_index (numbers ns) place ≡ d)
IsLeave ns d change.Nothing = is_in d (numbers ns) ≡ false

-- how many of these devices have a lesser number
abbrev pub room_for : ℕ → List NetDevice → ℕ
room_for d ns = prefix_len (λ (n : NetDevice). nat_lt n.id d) ns

-- What an edit of these devices changes: a device that joins has its row at its place among rising numbers.
abbrev pub IsChange : List NetDevice → EditValue → Change → Type 0
IsChange ns (LinkEdit a b w) ch = ch ≡ change.Nothing
IsChange ns (UnlinkEdit a b) ch = ch ≡ change.Nothing
IsChange ns (SetEdit d i v) ch = ch ≡ change.Nothing
IsChange ns (PokeEdit d e) ch = ch ≡ change.Nothing
IsChange ns (JoinEdit x) ch = (ch ≡ change.Join (room_for x.id ns) x.id) × (room_for x.id ns ≤ length ns)
IsChange ns (LeaveEdit d) ch = IsLeave ns d ch

abbrev pub IsJoin : Change → Type 0
IsJoin (change.Join place d) = Unit {0}
IsJoin (change.Leave place) = ⊥
IsJoin change.Nothing = ⊥

-- the places are those of an agenda
abbrev pub Fits : AgendaValue → Change → Type 0
Fits a (change.Join place d) = place ≤ length a.rows
Fits a (change.Leave place) = place < length a.rows
Fits a change.Nothing = Unit {0}

-- an agenda has memory for it
abbrev pub HasSpare : AgendaValue → Change → Type 0
HasSpare a (change.Join place d) = 1 ≤ a.spare
HasSpare a (change.Leave place) = Unit {0}
HasSpare a change.Nothing = Unit {0}

abbrev pub after_change : List Row → Change → List Row
after_change rows (change.Join place d) = insert rows place (first_row d)
after_change rows (change.Leave place) = remove rows place
after_change rows change.Nothing = rows
