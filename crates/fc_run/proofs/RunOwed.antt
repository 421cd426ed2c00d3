-- What `run` owes.
use Rattle.std.proofs.Common.{ℕ, ◌≡◌, ◌≤◌, true, List, refl, sym, subst, arith}
use Rattle.fc_nodes.specs.Program.{Unfolding, unfolding_of}
use Rattle.firing_core.specs.Cores.{Core}
use Rattle.edit_commands.specs.Agreement.{CommandsAgree}
use Rattle.edit_commands.specs.JudgedCommands.{ScriptsAreJudged}
use Rattle.edit_commands.specs.LineByLine.{AllLines, StopsAt}
use Rattle.edit_commands.specs.ScriptCommands.{ScriptsHaveCommands}
use Rattle.edit_commands.specs.Scripts.{ScriptLineFault, OfLine, OfScrambles, OfFirings}
use Rattle.edit_commands.specs.Scripts.{Script, TooManyLines, Within, script_of}
use Rattle.session.specs.Laws.{OneScriptRun, SomeScriptRun}
use Rattle.session.specs.Promises.{ScriptsKeepYes}
use Rattle.command_words.specs.declared.commands.RunOptions.{RunOptions}
use Rattle.command_frame.specs.Answers.{AnswerValue}
use Rattle.command_frame.specs.Causes.{Judged}
use Rattle.command_frame.specs.LineFaults.{fault_in}
use Rattle.command_frame.specs.Owing.{HasStatus, IsZero, RefusesBy}
use Rattle.command_frame.specs.Refusals.{status_of}
use Rattle.command_frame.specs.Starts.{InputsAreRead, start_of}
use Rattle.command_frame.proofs.Owed.{OwesScenes, refused_status, texts_owe, three_owe, zero_low}
use Rattle.command_frame.proofs.RefusalStatuses.{by_four, script_status}
use Rattle.fc_run.specs.Promises.{RunKeepsYes, RunOwes}
use Rattle.fc_run.specs.Runs.{Runs, RunsScript, line_refusal}
use Rattle.fc_run.proofs.KeptYes.{by_script}
use Rattle.fc_run.proofs.OneRuns.{one_script}
use Rattle.fc_run.proofs.SomeRuns.{some_script}

line_status : (at : ℕ) (fault : ScriptLineFault) → RefusesBy (status_of (line_refusal at fault))
line_status at (OfLine fault) = script_status at (fault_in fault)
line_status at (OfScrambles count) = by_four
line_status at (OfFirings count) = by_four

script_has_status : (o : RunOptions) (U : Unfolding) (start : Core) (script : Script) (j : Judged AnswerValue)
    → RunsScript o U start script j → HasStatus j
script_has_status o U start (TooManyLines count) j e = refused_status j _ by_four e
script_has_status o U start (Within (StopsAt at fault)) j e = refused_status j _ (line_status at fault) e
script_has_status o U start (Within (AllLines lines)) j h = subst HasStatus (sym h.runs.is) (omega arith)

module _ (laws : InputsAreRead) (agree : CommandsAgree) (have : ScriptsHaveCommands) (judged : ScriptsAreJudged)
    (one : OneScriptRun) (some : SomeScriptRun) (law : ScriptsKeepYes) (options : RunOptions) (script : List ℕ) where
  pub scenes_owe : OwesScenes true (λ U s j. RunsScript options U (start_of s) (script_of U (start_of s) script) j) IsZero
      (λ program network a. RunKeepsYes options program network script a)
  scenes_owe = record {
    some = λ Q s is good. some_script have judged some options Q is (start_of s) good script;
    one = λ Q s is good j k h g.
        one_script agree one options (unfolding_of Q) (start_of s) good (Q, is, refl)
        (script_of (unfolding_of Q) (start_of s) script) j k h g;
    statuses = λ U s j h. script_has_status options U (start_of s) (script_of U (start_of s) script) j h;
    low = zero_low;
    keeps = λ program network i reads a h zero.
        by_script laws law options program network script a i reads (script_of i.0 (start_of i.1) script) refl h;
  }

pub run_owes : InputsAreRead → CommandsAgree → ScriptsHaveCommands → ScriptsAreJudged → OneScriptRun → SomeScriptRun
    → ScriptsKeepYes → RunOwes
run_owes laws agree have judged one some law options =
    three_owe true (Runs options) IsZero (RunKeepsYes options)
    (λ script. texts_owe laws true (λ U s j. RunsScript options U (start_of s) (script_of U (start_of s) script) j) IsZero
    (λ program network a. RunKeepsYes options program network script a)
    (scenes_owe laws agree have judged one some law options script))
