-- Laws of script runs.
use Rattle.std.specs.Prelude.{ℕ, ◌≡◌, ◌+◌, ◌↔◌, List, ◌++◌, length}
use Rattle.fc_nodes.specs.Program.{Program, Unfolding, IsProgram, unfolding_of}
use Rattle.firing_core.specs.declared.entries.Part.{Part}
use Rattle.firing_core.specs.Cores.{Core, IsGood, Run}
use Rattle.firing_core.specs.Entries.{EntryValue}
use Rattle.edit_commands.specs.Agreement.{SameCommands, SameEntries}
use Rattle.edit_commands.specs.JudgedCommands.{AreJudged}
use Rattle.edit_commands.specs.Scripts.{CommandValue, at_start}
use Rattle.session.specs.ScriptRuns.{Added, both, DoesLines, ScriptRun}

-- lines in two groups: what the first do, and then what the second do from where those lead
abbrev pub InTwo : Unfolding → Core → ℕ → List (ℕ × CommandValue) → List (ℕ × CommandValue) → Added → Core → Type 0
InTwo U c at front rest a last =
    (x : Added) × (y : Added) × (middle : Core) × (a ≡ both x y)
    × DoesLines U c at front x middle × DoesLines U middle (at + length x.stretch) rest y last

abbrev pub LinesCut : Type 0
LinesCut = (U : Unfolding) (c last : Core) (at : ℕ) (front rest : List (ℕ × CommandValue)) (a : Added)
    → (DoesLines U c at (front ++ rest) a last ↔ InTwo U c at front rest a last)

-- from each good core, commands that are judged against it have a script run
abbrev pub SomeScriptRun : Type 0
SomeScriptRun = (P : Program) (c : Core) (lines : List (ℕ × CommandValue)) → IsProgram P → IsGood (unfolding_of P) c
    → AreJudged (unfolding_of P) c (at_start c.net) lines
    → (log : List EntryValue) × (parts : List Part) × (text : List ℕ) × (last : Core)
    × ScriptRun (unfolding_of P) c lines log parts text last

-- two script runs of commands that ask for the same, from one good core, whose logs agree: one text, and one core
abbrev pub OneScriptRun : Type 0
OneScriptRun = (P : Program) (c last other : Core) (xs ys : List (ℕ × CommandValue)) (log rest : List EntryValue)
    (parts more : List Part) (text says : List ℕ) → IsProgram P → IsGood (unfolding_of P) c
    → SameCommands (unfolding_of P) xs ys → SameEntries (unfolding_of P) log rest
    → ScriptRun (unfolding_of P) c xs log parts text last → ScriptRun (unfolding_of P) c ys rest more says other
    → (text ≡ says) × (last ≡ other)

-- the log of a script run leads from its core to the last one
abbrev pub ScriptRunsLead : Type 0
ScriptRunsLead = (U : Unfolding) (c last : Core) (lines : List (ℕ × CommandValue)) (log : List EntryValue)
    (parts : List Part) (text : List ℕ) → ScriptRun U c lines log parts text last → Run U c log last
