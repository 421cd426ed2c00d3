-- What `run` promises.
use Rattle.std.specs.Prelude.{ℕ, true, ◌≡◌, ◌++◌, List}
use Rattle.fc_nodes.specs.Program.{Unfolding}
use Rattle.firing_core.specs.declared.entries.Part.{Part}
use Rattle.firing_core.specs.Cores.{Core}
use Rattle.firing_core.specs.Entries.{EntryValue}
use Rattle.net_json.specs.Scenes.{SceneValue}
use Rattle.edit_commands.specs.Scripts.{CommandValue, IsScript}
use Rattle.session.specs.ScriptRuns.{ScriptRun}
use Rattle.session.specs.Promises.{KeepsYes}
use Rattle.fc_values.specs.declared.limits.TheConstants.{MOST_BYTES}
use Rattle.command_frame.specs.Answers.{showing, AnswerValue}
use Rattle.command_frame.specs.Causes.{Accepted}
use Rattle.command_frame.specs.Inputs.{ReadsInput}
use Rattle.command_frame.specs.Owing.{IsZero, OfThree, Owes}
use Rattle.command_frame.specs.Sections.{AreWithin, WithThree}
use Rattle.command_frame.specs.Ledgers.{book_of}
use Rattle.command_frame.specs.Starts.{start_of}
use Rattle.command_words.specs.declared.commands.RunOptions.{RunOptions}
use Rattle.fc_run.specs.Runs.{Runs, run_text}

-- What is run is a script run from the scene on, and keeps a yes: before each of its lines and at its end, where the
-- last verdict that was written is a yes, the program stabilises within its rounds on the network then; and where the
-- parts since the last edit have as many, each device holds the one solution there, and a `show` that comes next
-- writes it.
pub record RunKeepsYes (options : RunOptions) (program network script : List ℕ) (answer : AnswerValue) : Type 0 where
  pub unfolded : Unfolding
  pub scene : SceneValue
  pub reads : ReadsInput program network (Accepted (unfolded, scene))
  pub commands : List (ℕ × CommandValue)
  pub said : IsScript unfolded (start_of scene) script commands
  pub log : List EntryValue
  pub parts : List Part
  pub shown : List ℕ
  pub last : Core
  pub run : ScriptRun unfolded (start_of scene) commands log parts shown last
  pub keeps : (front rest : List (ℕ × CommandValue)) → commands ≡ front ++ rest
      → KeepsYes unfolded (start_of scene) front rest log parts shown last
  pub is : answer ≡ showing (run_text options unfolded log last shown) (book_of unfolded (start_of scene) log last)
      parts

-- `run` owes three sections an answer
abbrev pub RunOwes : Type 0
RunOwes =
    (options : RunOptions)
    → Owes true (AreWithin MOST_BYTES) (λ sections j. WithThree (Runs options) sections j) IsZero
    (λ sections answer. OfThree (λ program network script. RunKeepsYes options program network script answer) sections)
