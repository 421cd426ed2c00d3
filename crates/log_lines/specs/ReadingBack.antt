-- A log that was written is read back.
use Rattle.std.specs.Prelude.{ℕ, ◌≡◌, ◌+◌, List, [], ◌∷◌, map, Some}
use Rattle.std.specs.List.{All}
use Rattle.fc_values.specs.Names.{IsName}
use Rattle.fc_values.specs.Types.{Input}
use Rattle.fc_nodes.specs.Program.{Program, Unfolding, IsProgram, unfolding_of}
use Rattle.firing_core.specs.Cores.{Core, Run, IsGood}
use Rattle.firing_core.specs.Entries.{EntryValue}
use Rattle.firing_core.specs.Replays.{replay}
use Rattle.edit_commands.specs.Agreement.{SameEntries}
use Rattle.log_lines.specs.Logs.{IsLog, number_in, value_in}
use Rattle.log_lines.specs.LogTexts.{entry_lines}

-- entries with the numbers of their lines, one line each, from a number on
abbrev pub numbered_from : ℕ → List EntryValue → List (ℕ × EntryValue)
numbered_from k [] = []
numbered_from k (e ∷ es) = (k, e) ∷ numbered_from (k + 1) es

-- inputs have names of the language, as those of a program's text do
abbrev pub AreNamed : List Input → Type 0
AreNamed inputs = All (λ (i : Input). IsName i.name) inputs

-- Entries that stand for those of a log: one for each, in its line. They are the same, but for what a poked export
-- holds at the places of a branch that isn't taken, and lead to the same core.
pub record StandFor (U : Unfolding) (start : Core) (log : List EntryValue) (last : Core) (es : List (ℕ × EntryValue))
    : Type 0 where
  pub lines : map number_in es ≡ map number_in (numbered_from 1 log)
  pub same : SameEntries U log (map value_in es)
  pub leads : replay U start (map value_in es) ≡ Some last

-- the lines of a log say its entries, and whatever they say stands for these
pub record ReadsBack (U : Unfolding) (start : Core) (log : List EntryValue) (last : Core) : Type 0 where
  pub says : IsLog U start.net (entry_lines U.declared.inputs log) (numbered_from 1 log)
  pub each : (es : List (ℕ × EntryValue)) → IsLog U start.net (entry_lines U.declared.inputs log) es
      → StandFor U start log last es

-- this is so of each log that leads from a good core of a program to a core
abbrev pub LogsReadBack : Type 0
LogsReadBack =
    (P : Program) (start last : Core) (log : List EntryValue) → IsProgram P → AreNamed P.declared.inputs
    → IsGood (unfolding_of P) start → Run (unfolding_of P) start log last → ReadsBack (unfolding_of P) start log last
