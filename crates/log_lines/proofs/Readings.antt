-- Readings of one log agree.
use Rattle.std.proofs.Common.{ℕ, ◌≡◌, List, [], ◌∷◌, map, refl, sym, ap, subst, ◌∙◌}
use Rattle.fc_nodes.specs.Program.{Unfolding}
use Rattle.firing_core.specs.Entries.{EntryValue, BeginEntry, EndEntry, IdleEntry, EditEntry}
use Rattle.edit_commands.specs.declared.types.Fault.{Fault}
use Rattle.edit_commands.specs.Agreement.{SameEntry, SameEntries}
use Rattle.edit_commands.specs.LineByLine.{Lines, AllLines, StopsAt, AreSaid, SaidBy}
use Rattle.edit_commands.proofs.Agreeing.{same_edits}
use Rattle.log_lines.specs.Logs.{LogLine, BeginLine, EndLine, IdleLine, OfEdit, log_of, IsEntry, number_in, value_in, ReadingsAgree}

along_entry : (U : Unfolding) (e f g : EntryValue) → SameEntry U g g → e ≡ g → f ≡ g → SameEntry U e f
along_entry U e f g s h k = subst (λ x. SameEntry U x f) (sym h) (subst (SameEntry U g) (sym k) s)

same_entry : (U : Unfolding) (l : LogLine) (e f : EntryValue) → IsEntry U l e → IsEntry U l f → SameEntry U e f
same_entry U (BeginLine d) e f h k = along_entry U e f (BeginEntry d) refl h k
same_entry U (EndLine d) e f h k = along_entry U e f (EndEntry d) refl h k
same_entry U IdleLine e f h k = along_entry U e f IdleEntry refl h k
same_entry U (OfEdit l) (EditEntry e) (EditEntry f) h k = same_edits U l e f h k
same_entry U (OfEdit l) (EditEntry e) (BeginEntry d) h k = absurd k
same_entry U (OfEdit l) (EditEntry e) (EndEntry d) h k = absurd k
same_entry U (OfEdit l) (EditEntry e) IdleEntry h k = absurd k
same_entry U (OfEdit l) (BeginEntry d) f h k = absurd h
same_entry U (OfEdit l) (EndEntry d) f h k = absurd h
same_entry U (OfEdit l) IdleEntry f h k = absurd h

said_agree : (U : Unfolding) (ls : List (ℕ × LogLine)) (es fs : List (ℕ × EntryValue)) → AreSaid (IsEntry U) ls es → AreSaid (IsEntry U) ls fs → (map number_in es ≡ map number_in fs) × SameEntries U (map value_in es) (map value_in fs)
said_agree U [] [] [] h k = (refl, tt)
said_agree U [] [] (f ∷ fs) h k = absurd k
said_agree U [] (e ∷ es) fs h k = absurd h
said_agree U (l ∷ ls) [] fs h k = absurd h
said_agree U (l ∷ ls) (e ∷ es) [] h k = absurd k
said_agree U (l ∷ ls) (e ∷ es) (f ∷ fs) h k =
    let ih = said_agree U ls es fs h.2 k.2 in
    let n : e.0 ≡ f.0 = h.0 ∙ sym k.0 in
    (ap (λ m. m ∷ map number_in es) n ∙ ap (λ ms. f.0 ∷ ms) ih.0, (same_entry U l.1 e.1 f.1 h.1 k.1, ih.1))

pub readings_agree : ReadingsAgree
readings_agree U n text es fs h k = by_case (log_of U n text) h k
  where
    by_case : (r : Lines Fault LogLine) → SaidBy (IsEntry U) es r → SaidBy (IsEntry U) fs r → (map number_in es ≡ map number_in fs) × SameEntries U (map value_in es) (map value_in fs)
    by_case (AllLines ls) h k = said_agree U ls es fs h k
    by_case (StopsAt m f) h k = absurd h
