-- A table that was written is read back.
use Rattle.std.specs.Prelude.{ℕ, ◌≡◌, ◌≤◌, List, map}
use Rattle.std.specs.List.{All}
use Rattle.fc_values.specs.declared.limits.TheConstants.{GREATEST}
use Rattle.fc_values.specs.Fields.{Rises}
use Rattle.fc_nodes.specs.Program.{Unfolding}
use Rattle.fc_nodes.specs.Flat.{IsWellTyped}
use Rattle.topology.specs.Networks.{Network, Lives}
use Rattle.net_json.specs.Judging.{Accepted}
use Rattle.net_json.specs.Tables.{Row, row_number, table_judged}
use Rattle.net_json.specs.TableTexts.{table_data}

-- rows of devices that are there, rising, with well-typed exports
pub record AreTableRows (U : Unfolding) (n : Network) (rows : List Row) : Type 0 where
  pub rising : Rises (map row_number rows)
  pub there : All (λ (r : Row). Lives n r.0) rows
  pub exports : All (λ (r : Row). IsWellTyped U r.1) rows

-- where the ceiling is that of a program, a scene has the written table of such rows as these rows
abbrev pub TablesReadBack : Type 0
TablesReadBack = (U : Unfolding) (n : Network) (path : List ℕ) (rows : List Row)
    → U.declared.ceiling ≤ GREATEST → AreTableRows U n rows → table_judged U n path (table_data U rows) ≡ Accepted rows
