-- A script in which no line has a fault has commands.
use Rattle.std.specs.Prelude.{ℕ, ◌≡◌, List}
use Rattle.fc_nodes.specs.Program.{Unfolding}
use Rattle.firing_core.specs.Cores.{Core}
use Rattle.edit_commands.specs.LineByLine.{AllLines, AreSaid}
use Rattle.edit_commands.specs.Scripts.{ScriptLine, CommandValue, IsCommand, AllCommandsFit, lines_in}

-- commands that lines say, and that may be done
pub record HasCommands (U : Unfolding) (lines : List (ℕ × ScriptLine)) : Type 0 where
  pub commands : List (ℕ × CommandValue)
  pub said : AreSaid (IsCommand U) lines commands
  pub fits : AllCommandsFit U commands

abbrev pub ScriptsHaveCommands : Type 0
ScriptsHaveCommands =
    (U : Unfolding) (start : Core) (text : List ℕ) (lines : List (ℕ × ScriptLine))
    → lines_in U start text ≡ AllLines lines → HasCommands U lines
