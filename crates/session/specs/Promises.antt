-- What a yes promises of a script run.
use Rattle.std.specs.Prelude.{ℕ, ◌≡◌, ◌≤◌, List, ◌∷◌, ◌++◌, codes, map, length, Some}
use Rattle.std.specs.Fmt.{decimal}
use Rattle.fc_values.specs.Fields.{Entries}
use Rattle.fc_values.specs.Trees.{TreeExport}
use Rattle.fc_values.specs.Values.{LocalValue}
use Rattle.fc_nodes.specs.declared.verdicts.Verdict.TheVariants as verdict
use Rattle.fc_nodes.specs.Program.{Program, Unfolding, IsProgram, unfolding_of}
use Rattle.topology.specs.Networks.{Network, Lives, numbers}
use Rattle.firing_core.specs.declared.entries.Part.{Part}
use Rattle.firing_core.specs.Cores.{Core, IsGood}
use Rattle.firing_core.specs.Entries.{EntryValue}
use Rattle.converge_laws.specs.Stabilising.{Stabilises}
use Rattle.report.specs.Texts.{field_text}
use Rattle.edit_commands.specs.Scripts.{CommandValue, ShowCommand}
use Rattle.session.specs.ScriptRuns.{Added, DoesLines, ScriptRun}
use Rattle.session.specs.Shown.{all_shown, script_text, verdict_in}
use Rattle.session.specs.Since.{last_verdict, rounds_since}

-- a field at all devices of a network, rising
abbrev pub field_on : Network → (ℕ → LocalValue) → Entries
field_on N field = map (λ (d : ℕ). (d, field d)) (numbers N.devices)

-- each device's exported value is that of a field
abbrev pub HoldsField : Core → (ℕ → LocalValue) → Type 0
HoldsField c field = (d : ℕ) → Lives c.net d → (e : TreeExport) × (c.exports d ≡ Some e) × (e.value ≡ field d)

-- what a line `show` writes where devices hold a field
abbrev pub shows_field : ℕ → Network → (ℕ → LocalValue) → List ℕ
shows_field line N field = codes "@" ++ decimal line ++ codes "\n" ++ field_text (field_on N field)

-- A script run in two: lines that have led to a core with what they added, and the lines that follow. The last verdict
-- that was written by then speaks of the core's network. If it is a yes for k rounds, the program stabilises there
-- within them; and if the parts since the last edit have them, each device holds its value of the one field that solves
-- the program, and a `show` that comes next writes this field.
pub record KeepsYes (U : Unfolding) (c : Core) (front rest : List (ℕ × CommandValue)) (log : List EntryValue)
    (parts : List Part) (text : List ℕ) (last : Core) : Type 0 where
  pub before : Added
  pub core : Core
  pub after : Added
  pub does : DoesLines U c 0 front before core
  pub follow : DoesLines U core (length before.stretch) rest after last
  pub log_is : log ≡ before.stretch ++ after.stretch
  pub parts_are : parts ≡ before.parts ++ after.parts
  pub text_is : text ≡ script_text U c before.shown ++ all_shown after.shown
  pub verdict_is : verdict_in U core ≡ last_verdict (verdict_in U c) before.shown
  pub stabilises : (k : ℕ) → verdict_in U core ≡ verdict.Yes k → Stabilises U core.net k
  pub holds : (k : ℕ) (judged : verdict_in U core ≡ verdict.Yes k) → k ≤ rounds_since before
      → HoldsField core (stabilises k judged).one.field
  pub shows : (k line : ℕ) (more : List (ℕ × CommandValue)) (judged : verdict_in U core ≡ verdict.Yes k)
      → k ≤ rounds_since before → rest ≡ (line, ShowCommand) ∷ more
      → (later : List ℕ)
      × (text ≡ script_text U c before.shown ++ shows_field line core.net (stabilises k judged).one.field ++ later)

-- each script run from a good core keeps a yes, before each of its lines and at its end
abbrev pub ScriptsKeepYes : Type 0
ScriptsKeepYes = (P : Program) (c last : Core) (front rest : List (ℕ × CommandValue)) (log : List EntryValue)
    (parts : List Part) (text : List ℕ) → IsProgram P → IsGood (unfolding_of P) c
    → ScriptRun (unfolding_of P) c (front ++ rest) log parts text last
    → KeepsYes (unfolding_of P) c front rest log parts text last
