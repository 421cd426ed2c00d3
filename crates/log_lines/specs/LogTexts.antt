-- The texts of logs: a line for each entry, as a log is read.
use Rattle.std.specs.Prelude.{ℕ, zero, suc, List, [], ◌∷◌, ◌++◌, flat_map, codes}
use Rattle.std.specs.Fmt.{decimal}
use Rattle.fc_values.specs.Types.{Input}
use Rattle.topology.specs.Networks.{NetDevice}
use Rattle.firing_core.specs.Entries.{EditValue, LinkEdit, UnlinkEdit, SetEdit, PokeEdit, JoinEdit}
use Rattle.firing_core.specs.Entries.{LeaveEdit, EntryValue, BeginEntry, EndEntry, IdleEntry, EditEntry}
use Rattle.value_trees.specs.KeptLists.{kept_only}
use Rattle.report.specs.Texts.{after_space, after_spaces}

-- the name of the input of a number from 0; nothing where none is declared
abbrev pub input_name : List Input → ℕ → List ℕ
input_name [] n = []
input_name (i ∷ is) zero = i.name
input_name (i ∷ is) (suc n) = input_name is n

-- the join of a device
abbrev pub join_text : NetDevice → List ℕ
join_text x = codes "join " ++ decimal x.id ++ after_spaces x.inputs

-- an edit, where these inputs are declared: `link A B W`, `unlink A B`, `set D NAME V`, `poke D V K1 K2 ..` with the
-- kept values in preorder, `join D V1 V2 ..` with the values of the inputs in declared order, and `leave D`
abbrev pub edit_text : List Input → EditValue → List ℕ
edit_text inputs (LinkEdit a b weight) =
    codes "link " ++ decimal a ++ codes " " ++ decimal b ++ codes " " ++ decimal weight
edit_text inputs (UnlinkEdit a b) = codes "unlink " ++ decimal a ++ codes " " ++ decimal b
edit_text inputs (SetEdit d i v) = codes "set " ++ decimal d ++ codes " " ++ input_name inputs i ++ after_space v
edit_text inputs (PokeEdit d e) = codes "poke " ++ decimal d ++ after_space e.value ++ after_spaces (kept_only e.slots)
edit_text inputs (JoinEdit x) = join_text x
edit_text inputs (LeaveEdit d) = codes "leave " ++ decimal d

-- the line of an entry
abbrev pub entry_line : List Input → EntryValue → List ℕ
entry_line inputs (BeginEntry d) = codes "B" ++ decimal d ++ codes "\n"
entry_line inputs (EndEntry d) = codes "E" ++ decimal d ++ codes "\n"
entry_line inputs IdleEntry = codes "I\n"
entry_line inputs (EditEntry e) = edit_text inputs e ++ codes "\n"

-- a line for each entry
abbrev pub entry_lines : List Input → List EntryValue → List ℕ
entry_lines inputs log = flat_map (entry_line inputs) log

-- the line `log`, and behind it those of the entries
abbrev pub log_text : List Input → List EntryValue → List ℕ
log_text inputs log = codes "log\n" ++ entry_lines inputs log
