-- Script runs, line by line.
use Rattle.std.proofs.Common.{ℕ, ◌≡◌, ◌+◌, List, [], ◌∷◌, ◌++◌, length, sym, ap, subst, ◌∙◌, arith, append_assoc, append-nil}
use Rattle.std.proofs.lemmas.List.{length-map}
use Rattle.std.proofs.lemmas.Grind.{flat_map-append}
use Rattle.fc_nodes.specs.declared.verdicts.Verdict.{Verdict}
use Rattle.fc_nodes.specs.Program.{Program, unfolding_of}
use Rattle.firing_core.specs.CoreViews.{CoreValue, core_of}
use Rattle.firing_core.specs.Entries.{entry_of, entries_of}
use Rattle.report.specs.Verdicts.{verdict_text}
use Rattle.edit_commands.specs.Scripts.{CommandValue}
use Rattle.session.specs.Shown.{shown_text, all_shown, verdict_in}
use Rattle.session.specs.ScriptRuns.{DoesLine, DoesLines}
use Rattle.session.specs.declared.sessions.Session.{Session}
use Rattle.session.specs.Sessions.{AfterLine, HasRun}
use Rattle.session.proofs.Lines.{one_more}

module _ (P : Program) (start : CoreValue) where
  -- before the first line
  pub opened : (s : Session) (v : Verdict) → v ≡ verdict_in (unfolding_of P) (core_of start) → s.text.items ≡ verdict_text v → s.parts.items ≡ []
      → s.book.program ≡ P → core_of s.book.start ≡ core_of start → s.book.log ≡ [] → s.book.core ≡ start → HasRun P start [] s
  opened s v w says none p q e c =
      let log : entries_of s.book.log ≡ [] = ap entries_of e in
      record {
        program = p;
        start = q;
        run = record {
          shown = [];
          does = (cc, ap core_of c);
          says = says ∙ ap verdict_text w ∙ sym (append-nil (verdict_text (verdict_in (unfolding_of P) (core_of start))));
        };
      }

  -- one more line
  pub run_on : (s t : Session) (lines : List (ℕ × CommandValue)) (line : ℕ × CommandValue) → HasRun P start lines s → AfterLine line s t
      → HasRun P start (lines ++ line ∷ []) t
  run_on s t lines line h a =
      let at : length s.book.log ≡ 0 + length (entries_of s.book.log) = omega (arith, length-map s.book.log entry_of) in
      let row : DoesLine (unfolding_of P) (core_of s.book.core) (length s.book.log) line a.added (core_of t.book.core) =
      subst (λ (Q : Program). DoesLine (unfolding_of Q) (core_of s.book.core) (length s.book.log) line a.added (core_of t.book.core)) h.program a.does in
      let does = one_more (unfolding_of P) (core_of start) (core_of s.book.core) (core_of t.book.core) lines line _ a.added h.run.does
      (subst (λ (n : ℕ). DoesLine (unfolding_of P) (core_of s.book.core) n line a.added (core_of t.book.core)) at row) in
      record {
        program = a.program ∙ h.program;
        start = ap core_of a.start ∙ h.start;
        run = record {
          shown = h.run.shown ++ a.added.shown;
          does = subst (λ x. DoesLines (unfolding_of P) (core_of start) 0 (lines ++ line ∷ []) x (core_of t.book.core)) (let e = a.log in let f = a.parts in cc) does;
          says = a.text ∙ ap (λ l. l ++ all_shown a.added.shown) h.run.says
              ∙ append_assoc (verdict_text (verdict_in (unfolding_of P) (core_of start))) (all_shown h.run.shown) (all_shown a.added.shown)
              ∙ ap (λ l. verdict_text (verdict_in (unfolding_of P) (core_of start)) ++ l) (sym (flat_map-append shown_text h.run.shown a.added.shown));
        };
      }
