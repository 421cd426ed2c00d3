-- Edits on the lines of a script.
use Rattle.std.proofs.Common.{ℕ, ◌≡◌, ◌+◌, Bool, true, false, refl, sym, ap, subst, ◌∙◌, Some, None, Option}
use Rattle.std.specs.Prelude.{option_map, option_and_then, is_some}
use Rattle.std.specs.Option.{option_or}
use Rattle.fc_nodes.specs.Program.{Program, unfolding_of, IsProgram}
use Rattle.topology.specs.Networks.{Network}
use Rattle.firing_core.specs.Entries.{EditValue}
use Rattle.firing_core.specs.Cores.{Core, EditFits}
use Rattle.edit_commands.specs.declared.edits.EditLine.{EditLine as Line}
use Rattle.edit_commands.specs.declared.types.Fault.{Fault}
use Rattle.edit_commands.specs.declared.types.ScriptFault.{ScriptFault}
use Rattle.edit_commands.specs.declared.types.ScriptFault.TheVariants as script
use Rattle.edit_commands.specs.EditLines.{EditLine, LinkLine, UnlinkLine, SetLine, PokeLine, JoinLine, LeaveLine}
use Rattle.edit_commands.specs.Narrow.{narrow_line}
use Rattle.edit_commands.specs.Code.{line_of}
use Rattle.edit_commands.specs.LineByLine.{Accepted, Refused, unless_fault, WhereAccepted}
use Rattle.edit_commands.specs.Judging.{edit_line_fault, IsEdit}
use Rattle.edit_commands.specs.Scripts.{DoLine, MixLine, Progress, flies, ScriptLineFault, OfLine, OfFirings, firings_fault, with_firings, with_edit, script_line_judged, EditCommand, MixCommand, DoesCommand, if_mixed}
use Rattle.edit_commands.specs.ScriptCode.{IsFaultAt, HasLineFaultAt, IsWithin}
use Rattle.edit_commands.proofs.WideEdits.{program_narrow, fault_narrow, allowed_same}
use Rattle.edit_commands.proofs.ReadEdits.{IsRead}

module _ (p : Program) (h : IsProgram p) (start : Core) (s : Progress) (o : Option EditLine) (read : EditLine) (r : IsRead o read) where
  -- the fault of what was read is that of the line
  fault_same : (n : Network) (fl : ℕ → Bool) → edit_line_fault (unfolding_of p) n fl r.line ≡ edit_line_fault (unfolding_of p) n fl read
  fault_same n fl = sym (fault_narrow (unfolding_of p) (program_narrow p h) n fl r.line) ∙ ap (edit_line_fault (unfolding_of p) n fl) (sym r.narrow)

  -- what was read and has no fault is the line
  line_same : (n : Network) (fl : ℕ → Bool) → edit_line_fault (unfolding_of p) n fl read ≡ None → read ≡ r.line
  line_same n fl e = r.narrow ∙ allowed_same (unfolding_of p) (program_narrow p h) n fl r.line (fault_same n fl ∙ e)

  pub do_ok : (e : EditValue) (after : Progress) → IsEdit (unfolding_of p) read e → EditFits (unfolding_of p) e → edit_line_fault (unfolding_of p) s.net (flies start s.quiet) read ≡ None → after ≡ with_edit s read
      → WhereAccepted (DoesCommand (unfolding_of p) s after (EditCommand e)) (script_line_judged (unfolding_of p) start s (option_map DoLine o))
  do_ok e after says fits allowed then =
      let same : read ≡ r.line = line_same s.net (flies start s.quiet) allowed in
      let done : DoesCommand (unfolding_of p) s after (EditCommand e) (DoLine r.line) = record {
        says = subst (λ l. IsEdit (unfolding_of p) l e) same says;
        fits = fits;
        after_is = then ∙ ap (with_edit s) same;
      } in
      let judged : script_line_judged (unfolding_of p) start s (option_map DoLine o) ≡ Accepted (DoLine r.line) =
      ap (λ q. script_line_judged (unfolding_of p) start s (option_map DoLine q)) r.says ∙ ap (λ f. unless_fault (option_map OfLine f) (DoLine r.line)) (fault_same s.net (flies start s.quiet) ∙ allowed) in
      subst (WhereAccepted (DoesCommand (unfolding_of p) s after (EditCommand e))) (sym judged) done

  pub do_refused : (number : ℕ) (f : ScriptFault) → IsFaultAt number (edit_line_fault (unfolding_of p) s.net (flies start s.quiet) read) f → HasLineFaultAt number (script_line_judged (unfolding_of p) start s (option_map DoLine o)) f
  do_refused number (script.At k f) e =
      (e.0, ap (λ q. script_line_judged (unfolding_of p) start s (option_map DoLine q)) r.says ∙ ap (λ g. unless_fault (option_map OfLine g) (DoLine r.line)) (fault_same s.net (flies start s.quiet) ∙ e.1))
  do_refused number (script.Lines count) e = absurd e
  do_refused number (script.Scrambles count) e = absurd e
  do_refused number (script.Firings count) e = absurd e
  do_refused number script.Memory e = tt

  module _ (rounds : ℕ) where
    -- the line with its rounds
    judged : (f : Option ScriptLineFault) (g : Option Fault) → firings_fault s (rounds + 1) ≡ f → edit_line_fault (unfolding_of p) s.net (λ d. false) read ≡ g
        → script_line_judged (unfolding_of p) start s (option_map (MixLine rounds) o) ≡ unless_fault (option_or f (option_map OfLine g)) (MixLine rounds r.line)
    judged f g e k =
        ap (λ q. script_line_judged (unfolding_of p) start s (option_map (MixLine rounds) q)) r.says
        ∙ ap (λ x. unless_fault (option_or x (option_map OfLine (edit_line_fault (unfolding_of p) s.net (λ d. false) r.line))) (MixLine rounds r.line)) e
        ∙ ap (λ x. unless_fault (option_or f (option_map OfLine x)) (MixLine rounds r.line)) (fault_same s.net (λ d. false) ∙ k)

    pub mix_past : (count : ℕ) → firings_fault s (rounds + 1) ≡ Some (OfFirings count) → script_line_judged (unfolding_of p) start s (option_map (MixLine rounds) o) ≡ Refused (OfFirings count)
    mix_past count e = judged (Some (OfFirings count)) (edit_line_fault (unfolding_of p) s.net (λ d. false) read) e refl

    pub mix_ok : (e : EditValue) (counted after : Progress) → firings_fault s (rounds + 1) ≡ None → counted ≡ with_firings s (rounds + 1) → IsEdit (unfolding_of p) read e → EditFits (unfolding_of p) e
        → edit_line_fault (unfolding_of p) counted.net (flies start counted.quiet) read ≡ None → after ≡ with_edit counted read
        → WhereAccepted (DoesCommand (unfolding_of p) s after (MixCommand rounds e)) (script_line_judged (unfolding_of p) start s (option_map (MixLine rounds) o))
    mix_ok e counted after none c says fits allowed then =
        let free : edit_line_fault (unfolding_of p) s.net (λ d. false) read ≡ None = subst (λ (q : Progress). edit_line_fault (unfolding_of p) q.net (flies start q.quiet) read ≡ None) c allowed in
        let same : read ≡ r.line = line_same s.net (λ d. false) free in
        let done : DoesCommand (unfolding_of p) s after (MixCommand rounds e) (MixLine rounds r.line) = record {
          says = (refl, subst (λ l. IsEdit (unfolding_of p) l e) same says);
          fits = fits;
          after_is = then ∙ ap (λ q. with_edit q read) c ∙ ap (with_edit (with_firings s (rounds + 1))) same;
        } in
        subst (WhereAccepted (DoesCommand (unfolding_of p) s after (MixCommand rounds e))) (sym (judged None None none free)) done

    pub mix_refused : (number : ℕ) (counted : Progress) (f : ScriptFault) → firings_fault s (rounds + 1) ≡ None → counted ≡ with_firings s (rounds + 1)
        → IsFaultAt number (edit_line_fault (unfolding_of p) counted.net (flies start counted.quiet) read) f → HasLineFaultAt number (script_line_judged (unfolding_of p) start s (option_map (MixLine rounds) o)) f
    mix_refused number counted (script.At k f) none c e =
        let g : edit_line_fault (unfolding_of p) s.net (λ d. false) read ≡ Some f = subst (λ (q : Progress). edit_line_fault (unfolding_of p) q.net (flies start q.quiet) read ≡ Some f) c e.1 in
        (e.0, judged None (Some f) none g)
    mix_refused number counted (script.Lines count) none c e = absurd e
    mix_refused number counted (script.Scrambles count) none c e = absurd e
    mix_refused number counted (script.Firings count) none c e = absurd e
    mix_refused number counted script.Memory none c e = tt

-- an edit passes no limit
pub edit_within : (p after : Progress) (l : EditLine) → IsWithin p → after ≡ with_edit p l → IsWithin after
edit_within p after l w e = subst IsWithin (sym e) (record { scrambles = w.scrambles; firings = w.firings })

-- an edit that was read and may stand among firings is that of the words
pub mixed_read : (o : Option EditLine) (read : Option Line) (l : Line) → option_map line_of read ≡ option_map narrow_line o → read ≡ Some l → is_some (if_mixed (line_of l)) ≡ true
    → Some (line_of l) ≡ option_map narrow_line (option_and_then if_mixed o)
mixed_read None read l e f m = let off : None ≡ Some (line_of l) = sym e ∙ ap (option_map line_of) f in absurd cc
mixed_read (Some q) read l e f m = by_line q (sym e ∙ ap (option_map line_of) f)
  where
    by_line : (k : EditLine) → Some (narrow_line k) ≡ Some (line_of l) → Some (line_of l) ≡ option_map narrow_line (if_mixed k)
    by_line (LinkLine a b w) g = sym g
    by_line (UnlinkLine a b) g = sym g
    by_line (SetLine d i v) g = sym g
    by_line (PokeLine d v ks) g = sym g
    by_line (JoinLine x) g =
        let same : line_of l ≡ narrow_line (JoinLine x) = cc in
        let off : false ≡ true = subst (λ k. is_some (if_mixed k) ≡ true) same m in
        absurd cc
    by_line (LeaveLine d) g =
        let same : line_of l ≡ narrow_line (LeaveLine d) = cc in
        let off : false ≡ true = subst (λ k. is_some (if_mixed k) ≡ true) same m in
        absurd cc
