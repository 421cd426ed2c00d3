-- The entries of a log, as plain values.
use Rattle.std.specs.Prelude.{ℕ, List, map}
use Rattle.fc_values.specs.Exports.{FlatExport, export_of}
use Rattle.fc_values.specs.Values.{LocalValue, local_of}
use Rattle.topology.specs.Networks.{NetDevice, net_device_of}
use Rattle.firing_core.specs.declared.entries.Edit.{Edit}
use Rattle.firing_core.specs.declared.entries.Edit.TheVariants as edit
use Rattle.firing_core.specs.declared.entries.Entry.{Entry}
use Rattle.firing_core.specs.declared.entries.Entry.TheVariants as entry

-- an edit: it sets a link with its weight, removes a link, sets an input of a device or its export, adds a device, or
-- removes one
pub data EditValue : Type 0 where
  LinkEdit : ℕ → ℕ → ℕ → EditValue
  UnlinkEdit : ℕ → ℕ → EditValue
  SetEdit : ℕ → ℕ → LocalValue → EditValue
  PokeEdit : ℕ → FlatExport → EditValue
  JoinEdit : NetDevice → EditValue
  LeaveEdit : ℕ → EditValue

-- an entry: the begin or the end of a device's firing, a turn that changes nothing, or an edit
pub data EntryValue : Type 0 where
  BeginEntry : ℕ → EntryValue
  EndEntry : ℕ → EntryValue
  IdleEntry : EntryValue
  EditEntry : EditValue → EntryValue

-- the edits, entries and logs that those of the code stand for
abbrev pub edit_of : Edit → EditValue
edit_of (edit.Link a b w) = LinkEdit a b w
edit_of (edit.Unlink a b) = UnlinkEdit a b
edit_of (edit.Set d i v) = SetEdit d i (local_of v)
edit_of (edit.Poke d e) = PokeEdit d (export_of e)
edit_of (edit.Join x) = JoinEdit (net_device_of x)
edit_of (edit.Leave d) = LeaveEdit d

abbrev pub entry_of : Entry → EntryValue
entry_of (entry.Begin d) = BeginEntry d
entry_of (entry.End d) = EndEntry d
entry_of entry.Idle = IdleEntry
entry_of (entry.Edit e) = EditEntry (edit_of e)

abbrev pub entries_of : List Entry → List EntryValue
entries_of es = map entry_of es
