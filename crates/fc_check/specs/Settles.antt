-- What `check --settle` makes of a program and a scene: the verdict's text, and behind it after how many rounds the
-- devices of the network settle, and to which values. With `--from-table` the rounds are counted from the scene's table
-- and copies in flight. Without it they are counted from any; the scene's are judged, but not used.
use Rattle.std.specs.Prelude.{ℕ, Bool, ◌≡◌, List, ◌++◌, map, length, Option, Some, None}
use Rattle.fc_values.specs.Values.{LocalValue}
use Rattle.fc_nodes.specs.Program.{Unfolding}
use Rattle.topology.specs.Networks.{Network, numbers}
use Rattle.fragment_check.specs.Verdicts.{verdict_of}
use Rattle.bound_rounds.specs.Rounds.{BoundTable}
use Rattle.settle_rounds.specs.Rounds.{any_table}
use Rattle.settle_rounds.specs.Within.{StartTable}
use Rattle.settle_rounds.specs.Starts.{growing_cap}
use Rattle.settle_rounds.specs.SettleTimes.{settle_time, settled_from}
use Rattle.net_json.specs.Scenes.{SceneValue}
use Rattle.command_words.specs.declared.commands.Start.{Start}
use Rattle.command_words.specs.declared.commands.Start.TheVariants.{Any, Table}
use Rattle.report.specs.Settling.{settling_text}
use Rattle.verdict_texts.specs.VerdictTexts.{checked_text}
use Rattle.command_frame.specs.Answers.{AnswerValue, plain}
use Rattle.command_frame.specs.Causes.{Judged, Accepted}
use Rattle.command_frame.specs.Starts.{start_of}

-- each device, rising, with its settle round from a table of bounds and its value then
abbrev pub settled_devices : Unfolding → Network → BoundTable → List (ℕ × Option (ℕ × LocalValue))
settled_devices U N table = map (λ (d : ℕ). (d, settled_from U N table d)) (numbers N.devices)

-- the settle time of a network from there, if it isn't open
abbrev pub time_of : Unfolding → Network → BoundTable → Option ℕ
time_of U N table = settle_time (verdict_of U (length N.devices)) (map (settled_from U N table) (numbers N.devices))

-- the status is 1 exactly where the network is open, whatever the verdict
abbrev pub settle_status : Option ℕ → ℕ
settle_status (Some rounds) = 0
settle_status None = 1

-- what is written of a program and a network where rounds are counted from a table of bounds
abbrev pub settles_text : Bool → Unfolding → Network → BoundTable → List ℕ
settles_text facts U N table =
    checked_text facts U (length N.devices) ++ settling_text (time_of U N table) (settled_devices U N table)

-- the same, with its status
abbrev pub settling_of : Bool → Unfolding → Network → BoundTable → AnswerValue
settling_of facts U N table = plain (settle_status (time_of U N table)) (settles_text facts U N table)

-- the table of bounds from which rounds are counted: that of any exports, or the one to which the scene's exports and
-- copies in flight grow; where they grow for too many rounds, that of any exports as well
abbrev pub StartsFrom : Start → Unfolding → SceneValue → BoundTable → Type 0
StartsFrom Any U s table = table ≡ any_table U
StartsFrom Table U s table = StartTable U s.net (growing_cap (length s.net.devices)) (start_of s) table

-- a program and a scene of it
pub record SettlesScene (facts : Bool) (from : Start) (U : Unfolding) (s : SceneValue) (j : Judged AnswerValue)
    : Type 0 where
  pub table : BoundTable
  pub starts : StartsFrom from U s table
  pub settled : j ≡ Accepted (settling_of facts U s.net table)
