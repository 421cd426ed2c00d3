-- A table that `replay` has written, given back as the table of a scene.
use Rattle.std.specs.Prelude.{ℕ, ◌≡◌, ◌≤◌, List, []}
use Rattle.fc_values.specs.declared.limits.TheConstants.{GREATEST}
use Rattle.fc_nodes.specs.Program.{Unfolding}
use Rattle.topology.specs.Networks.{IsNetwork}
use Rattle.firing_core.specs.Cores.{Core, IsGood}
use Rattle.net_json.specs.Judging.{Accepted}
use Rattle.net_json.specs.Tables.{table_judged}
use Rattle.net_json.specs.TableTexts.{table_data}
use Rattle.command_frame.specs.Starts.{start_of}
use Rattle.command_frame.specs.Tables.{rows_of}

-- a scene of a core's network has the core's written table as the core's rows, and starts from the core's exports
pub record Resumes (U : Unfolding) (core : Core) (path : List ℕ) : Type 0 where
  pub rows : table_judged U core.net path (table_data U (rows_of core core.net.devices))
      ≡ Accepted (rows_of core core.net.devices)
  pub exports : (start_of (record { net = core.net; table = rows_of core core.net.devices; pending = [] })).exports
      ≡ core.exports

-- each good core of a program does so
abbrev pub TablesResume : Type 0
TablesResume =
    (U : Unfolding) (core : Core) (path : List ℕ) → U.declared.ceiling ≤ GREATEST → IsNetwork core.net → IsGood U core
    → Resumes U core path
