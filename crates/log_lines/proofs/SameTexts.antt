-- Crates above cite this module: logs that agree have one text.
use Rattle.std.proofs.Common.{ℕ, ◌≡◌, List, [], ◌∷◌, ◌++◌, refl, sym, ap, ap₂, ◌∙◌}
use Rattle.std.specs.Prelude.{codes}
use Rattle.std.specs.Fmt.{decimal}
use Rattle.fc_values.specs.Exports.{FlatExport}
use Rattle.fc_values.specs.Trees.{TreeExport}
use Rattle.fc_values.specs.Types.{Input}
use Rattle.fc_values.specs.Values.{LocalValue}
use Rattle.fc_nodes.specs.Program.{Unfolding}
use Rattle.value_trees.specs.KeptLists.{kept_only, kept_values}
use Rattle.value_trees.proofs.KeptSlots.{kept_of_slots}
use Rattle.firing_core.specs.Entries.{EditValue, LinkEdit, UnlinkEdit, SetEdit, PokeEdit, JoinEdit, LeaveEdit}
use Rattle.firing_core.specs.Entries.{EntryValue, BeginEntry, EndEntry, IdleEntry, EditEntry}
use Rattle.edit_commands.specs.Agreement.{SameExport, SameEdit, SameEntry, SameEntries}
use Rattle.log_lines.specs.LogTexts.{edit_text, entry_line, entry_lines, log_text}
use Rattle.report.specs.Texts.{after_space, after_spaces}

same_value : (U : Unfolding) (x y : FlatExport) → SameExport U x y → x.value ≡ y.value
same_value U x y h = ap (λ (e : TreeExport). e.value) h.tree

same_kept : (U : Unfolding) (x y : FlatExport) → SameExport U x y → kept_only x.slots ≡ kept_only y.slots
same_kept U x y h = sym (kept_of_slots U x h.first) ∙ ap kept_values h.tree ∙ kept_of_slots U y h.second

abbrev poke_text : ℕ → LocalValue → List LocalValue → List ℕ
poke_text d v ks = codes "poke " ++ decimal d ++ after_space v ++ after_spaces ks

same_edit : (U : Unfolding) (is : List Input) (e f : EditValue) → SameEdit U e f → edit_text is e ≡ edit_text is f
same_edit U is (LinkEdit a b w) f h = ap (edit_text is) (sym h)
same_edit U is (UnlinkEdit a b) f h = ap (edit_text is) (sym h)
same_edit U is (SetEdit d i v) f h = ap (edit_text is) (sym h)
same_edit U is (JoinEdit x) f h = ap (edit_text is) (sym h)
same_edit U is (LeaveEdit d) f h = ap (edit_text is) (sym h)
same_edit U is (PokeEdit d x) (PokeEdit e y) h =
    ap (λ n. poke_text n x.value (kept_only x.slots)) (sym h.0)
    ∙ ap₂ (λ v ks. poke_text e v ks) (same_value U x y h.1) (same_kept U x y h.1)
same_edit U is (PokeEdit d x) (LinkEdit a b w) h = absurd h
same_edit U is (PokeEdit d x) (UnlinkEdit a b) h = absurd h
same_edit U is (PokeEdit d x) (SetEdit a i v) h = absurd h
same_edit U is (PokeEdit d x) (JoinEdit y) h = absurd h
same_edit U is (PokeEdit d x) (LeaveEdit a) h = absurd h

same_entry : (U : Unfolding) (is : List Input) (e f : EntryValue) → SameEntry U e f → entry_line is e ≡ entry_line is f
same_entry U is (BeginEntry d) f h = ap (entry_line is) (sym h)
same_entry U is (EndEntry d) f h = ap (entry_line is) (sym h)
same_entry U is IdleEntry f h = ap (entry_line is) (sym h)
same_entry U is (EditEntry e) (EditEntry f) h = ap (λ t. t ++ codes "\n") (same_edit U is e f h)
same_entry U is (EditEntry e) (BeginEntry d) h = absurd h
same_entry U is (EditEntry e) (EndEntry d) h = absurd h
same_entry U is (EditEntry e) IdleEntry h = absurd h

same_lines : (U : Unfolding) (is : List Input) (es fs : List EntryValue) → SameEntries U es fs
    → entry_lines is es ≡ entry_lines is fs
same_lines U is [] [] h = refl
same_lines U is [] (f ∷ fs) h = absurd h
same_lines U is (e ∷ es) [] h = absurd h
same_lines U is (e ∷ es) (f ∷ fs) h = ap₂ (λ a b. a ++ b) (same_entry U is e f h.0) (same_lines U is es fs h.1)

pub same_log : (U : Unfolding) (is : List Input) (es fs : List EntryValue) → SameEntries U es fs → log_text is es
    ≡ log_text is fs
same_log U is es fs h = ap (λ l. codes "log\n" ++ l) (same_lines U is es fs h)
