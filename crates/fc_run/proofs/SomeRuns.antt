-- A script is run to something.
use Rattle.std.proofs.Common.{ℕ, ◌≡◌, Bool, true, false, List, length, refl, ap, sym, subst, if◌then◌else◌}
use Rattle.std.specs.Prelude.{nat_lt}
use Rattle.fc_nodes.specs.Program.{Program, unfolding_of, IsProgram}
use Rattle.firing_core.specs.Cores.{Core, IsGood}
use Rattle.fc_io.specs.Lines.{lines_of}
use Rattle.edit_commands.specs.declared.scripts.TheConstants.{MOST_LINES}
use Rattle.edit_commands.specs.JudgedCommands.{ScriptsAreJudged}
use Rattle.edit_commands.specs.LineByLine.{Lines, AllLines, StopsAt}
use Rattle.edit_commands.specs.ScriptCommands.{ScriptsHaveCommands}
use Rattle.edit_commands.specs.Scripts.{ScriptLine, ScriptLineFault, TooManyLines, Within, lines_in, script_of}
use Rattle.edit_commands.specs.Scripts.{IsScript, SaidByScript}
use Rattle.session.specs.Laws.{SomeScriptRun}
use Rattle.command_frame.specs.declared.refusal.Refusal.TheVariants.{Lines as LinesOf}
use Rattle.command_frame.specs.Answers.{showing, AnswerValue}
use Rattle.command_frame.specs.Causes.{Plainly, Judged, Accepted, Refused}
use Rattle.command_frame.specs.Ledgers.{book_of}
use Rattle.command_words.specs.declared.commands.RunOptions.{RunOptions}
use Rattle.fc_run.specs.Runs.{run_text, line_refusal, RunsScript}

module _ (have : ScriptsHaveCommands) (judged : ScriptsAreJudged) (some : SomeScriptRun) (options : RunOptions)
    (P : Program) (p : IsProgram P)
    (start : Core) (good : IsGood (unfolding_of P) start) (text : List ℕ) where
  -- a script with few lines
  some_lines : (lines : Lines ScriptLineFault ScriptLine) → lines_in (unfolding_of P) start text ≡ lines
      → script_of (unfolding_of P) start text ≡ Within lines
      → (j : Judged AnswerValue) × RunsScript options (unfolding_of P) start (Within lines) j
  some_lines (StopsAt at fault) e q = (Refused (Plainly (line_refusal at fault)), refl)
  some_lines (AllLines ls) e q =
      let h = have (unfolding_of P) start text ls e in
      let is : IsScript (unfolding_of P) start text h.commands =
      subst (SaidByScript (unfolding_of P) h.commands) (sym q) h.said in
      let r = some P start h.commands p good (judged (unfolding_of P) start text h.commands is h.fits) in (
        Accepted (showing (run_text options (unfolding_of P) r.0 r.3 r.2) (book_of (unfolding_of P) start r.0 r.3) r.1),
        record {
          commands = h.commands;
          said = h.said;
          runs = record {
            log = r.0;
            parts = r.1;
            shown = r.2;
            last = r.3;
            run = r.4;
            is = refl;
          };
        },
      )

  pub some_script : (j : Judged AnswerValue) × RunsScript options (unfolding_of P) start
      (script_of (unfolding_of P) start text) j
  some_script = by_test (nat_lt MOST_LINES (length (lines_of text))) refl
    where
      by_test : (b : Bool) → nat_lt MOST_LINES (length (lines_of text)) ≡ b
          → (j : Judged AnswerValue) × RunsScript options (unfolding_of P) start
          (if b then TooManyLines (length (lines_of text)) else Within (lines_in (unfolding_of P) start text)) j
      by_test true e = (Refused (Plainly (LinesOf (length (lines_of text)))), refl)
      by_test false e = some_lines (lines_in (unfolding_of P) start text) refl
          (ap (λ b. if b then TooManyLines (length (lines_of text)) else Within (lines_in (unfolding_of P) start text))
          e)
