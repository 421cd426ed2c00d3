-- What is run keeps a yes.
use Rattle.std.proofs.Common.{ℕ, ◌≡◌, List, ◌++◌, sym, subst}
use Rattle.fc_nodes.specs.Program.{Unfolding}
use Rattle.firing_core.specs.Cores.{IsGood}
use Rattle.edit_commands.specs.LineByLine.{AllLines, StopsAt}
use Rattle.edit_commands.specs.Scripts.{CommandValue, Script, TooManyLines, Within, IsScript, SaidByScript, script_of}
use Rattle.session.specs.Promises.{KeepsYes, ScriptsKeepYes}
use Rattle.session.specs.ScriptRuns.{ScriptRun}
use Rattle.command_frame.specs.Causes.{Accepted}
use Rattle.command_frame.specs.Inputs.{InputOf, ReadsInput}
use Rattle.command_frame.specs.Starts.{InputsAreRead, start_of}
use Rattle.command_frame.specs.Answers.{AnswerValue}
use Rattle.command_words.specs.declared.commands.RunOptions.{RunOptions}
use Rattle.fc_run.specs.Promises.{RunKeepsYes}
use Rattle.fc_run.specs.Runs.{RunsCommands, RunsScript}

module _ (laws : InputsAreRead) (law : ScriptsKeepYes) (options : RunOptions)
    (program network script : List ℕ) (r : AnswerValue) where
  by_commands : (i : InputOf) → ReadsInput program network (Accepted i) → (commands : List (ℕ × CommandValue))
      → IsScript i.0 (start_of i.1) script commands → RunsCommands options i.0 (start_of i.1) commands (Accepted r)
      → RunKeepsYes options program network script r
  by_commands i reads commands said h =
      let p = laws.unfolded program network i reads in
      let Law : Unfolding → List (ℕ × CommandValue) → List (ℕ × CommandValue) → Type 0 = λ V front rest.
      IsGood V (start_of i.1) → ScriptRun V (start_of i.1) (front ++ rest) h.log h.parts h.shown h.last
      → KeepsYes V (start_of i.1) front rest h.log h.parts h.shown h.last in
      record {
        unfolded = i.0;
        scene = i.1;
        reads = reads;
        commands = commands;
        said = said;
        log = h.log;
        parts = h.parts;
        shown = h.shown;
        last = h.last;
        run = h.run;
        keeps = λ front rest cut.
            subst (λ V. Law V front rest) p.2
            (law p.0 (start_of i.1) h.last front rest h.log h.parts h.shown p.1)
            (laws.start program network i reads).good
            (subst (λ (cs : List (ℕ × CommandValue)). ScriptRun i.0 (start_of i.1) cs h.log h.parts h.shown h.last)
            cut h.run);
        is = cc (h.is);
      }

  pub by_script : (i : InputOf) → ReadsInput program network (Accepted i) → (q : Script)
      → script_of i.0 (start_of i.1) script ≡ q → RunsScript options i.0 (start_of i.1) q (Accepted r)
      → RunKeepsYes options program network script r
  by_script i reads (TooManyLines count) e h = absurd (cc (h))
  by_script i reads (Within (StopsAt at fault)) e h = absurd (cc (h))
  by_script i reads (Within (AllLines lines)) e h =
      by_commands i reads h.commands (subst (SaidByScript i.0 h.commands) (sym e) h.said) h.runs
