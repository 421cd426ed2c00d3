-- A log in which no line has a fault has entries.
use Rattle.std.specs.Prelude.{ℕ, ◌≡◌, List, map}
use Rattle.fc_nodes.specs.Program.{Unfolding}
use Rattle.topology.specs.Networks.{Network}
use Rattle.firing_core.specs.Entries.{EntryValue}
use Rattle.firing_core.specs.Replays.{LogFits}
use Rattle.edit_commands.specs.LineByLine.{AllLines}
use Rattle.log_lines.specs.Logs.{LogLine, log_of, IsLog, value_in}

-- entries that a log says, and that may be replayed
pub record HasEntries (U : Unfolding) (n : Network) (text : List ℕ) : Type 0 where
  pub entries : List (ℕ × EntryValue)
  pub log : IsLog U n text entries
  pub fits : LogFits U (map value_in entries)

abbrev pub LogsHaveEntries : Type 0
LogsHaveEntries =
    (U : Unfolding) (n : Network) (text : List ℕ) (ls : List (ℕ × LogLine))
    → log_of U n text ≡ AllLines ls → HasEntries U n text
