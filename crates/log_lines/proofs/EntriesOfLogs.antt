-- A log in which no line has a fault has entries.
use Rattle.std.proofs.Common.{ℕ, ◌≡◌, ◌==◌, Bool, true, false, List, [], ◌∷◌, refl, sym, subst, Some, None, Option, if◌then◌else◌}
use Rattle.std.specs.Prelude.{option_map, IfSome}
use Rattle.fc_io.specs.Lines.{lines_of}
use Rattle.fc_values.specs.Numbers.{number_of}
use Rattle.fc_values.specs.Types.{Input}
use Rattle.fc_nodes.specs.Program.{Unfolding}
use Rattle.value_trees.specs.KeptExports.{ListsHaveExports}
use Rattle.topology.specs.Networks.{Network}
use Rattle.firing_core.specs.Entries.{BeginEntry, EndEntry, IdleEntry, EditEntry}
use Rattle.firing_core.specs.Replays.{EntryFits}
use Rattle.edit_commands.specs.declared.types.Fault.{Fault}
use Rattle.edit_commands.specs.Code.{LineFits}
use Rattle.edit_commands.specs.EditLines.{EditLine, edit_line}
use Rattle.edit_commands.specs.LineByLine.{Accepted, unless_fault, SaidBy}
use Rattle.edit_commands.specs.Lines.{words_of}
use Rattle.edit_commands.proofs.LinesOfEdits.{some_mapped, edit_fits, an_edit}
use Rattle.edit_commands.proofs.SaidLines.{Said, lines_said}
use Rattle.log_lines.specs.LogEntries.{LogsHaveEntries}
use Rattle.log_lines.specs.Logs.{LogLine, BeginLine, EndLine, IdleLine, OfEdit, idle_line, edit_in, log_line, log_line_fault, network_after, log_text_judged, log_line_judged, log_of, IsEntry}
use Rattle.log_lines.proofs.ReadLogs.{fits_alone}

abbrev MayBe : LogLine → Type 0
MayBe (BeginLine d) = Unit {0}
MayBe (EndLine d) = Unit {0}
MayBe IdleLine = Unit {0}
MayBe (OfEdit l) = LineFits l

edit_may : (o : Option EditLine) → IfSome o LineFits → IfSome (option_map OfEdit o) MayBe
edit_may None h = tt
edit_may (Some l) h = h

idle_may : (bs : List ℕ) → IfSome (idle_line bs) MayBe
idle_may [] = tt
idle_may (b ∷ bs) = tt

line_may : (is : List Input) (text : List ℕ) → IfSome (log_line is text) MayBe
line_may is [] = tt
line_may is (b ∷ bs) = by_tests (b == 66) (b == 69) (b == 73)
  where
    by_tests : (p q r : Bool) → IfSome (if p then option_map BeginLine (number_of bs) else if q then option_map EndLine (number_of bs) else if r then idle_line bs else edit_in is (b ∷ bs)) MayBe
    by_tests true q r = some_mapped MayBe BeginLine (λ d. tt) (number_of bs)
    by_tests false true r = some_mapped MayBe EndLine (λ d. tt) (number_of bs)
    by_tests false false true = idle_may bs
    by_tests false false false = edit_may (edit_line is (words_of (b ∷ bs))) (edit_fits is (words_of (b ∷ bs)))

module _ (lists : ListsHaveExports) (U : Unfolding) where
  an_entry : (n : Network) (l : LogLine) → MayBe l → log_line_fault U n l ≡ None → Said (IsEntry U) (EntryFits U) l
  an_entry n (BeginLine d) m h = record { thing = BeginEntry d; says = refl; fits = tt }
  an_entry n (EndLine d) m h = record { thing = EndEntry d; says = refl; fits = tt }
  an_entry n IdleLine m h = record { thing = IdleEntry; says = refl; fits = tt }
  an_entry n (OfEdit l) m h = let e = an_edit lists U n (λ d. false) l m h in record { thing = EditEntry e.thing; says = e.says; fits = e.fits }

  judged_entry : (n : Network) (o : Option LogLine) → IfSome o MayBe → (l : LogLine) → log_text_judged U n o ≡ Accepted l → Said (IsEntry U) (EntryFits U) l
  judged_entry n None m l e = absurd cc
  judged_entry n (Some k) m l e = by_fault (log_line_fault U n k) refl e
    where
      by_fault : (f : Option Fault) → log_line_fault U n k ≡ f → unless_fault f k ≡ Accepted l → Said (IsEntry U) (EntryFits U) l
      by_fault (Some f) h g = absurd cc
      by_fault None h g = let same : k ≡ l = cc in subst (Said (IsEntry U) (EntryFits U)) same (an_entry n k m h)

pub logs_have_entries : ListsHaveExports → LogsHaveEntries
unfolding log_of
logs_have_entries lists U n text ls e =
    let r = lines_said (log_line_judged U) network_after (IsEntry U) (EntryFits U)
    (λ m line. judged_entry lists U m (log_line m.declared.inputs line) (line_may m.declared.inputs line)) n 1 (lines_of text) ls e in
    record { entries = r.things; log = subst (SaidBy (IsEntry U) r.things) (sym e) r.said; fits = fits_alone U r.things r.fits }
