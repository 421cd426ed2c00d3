-- The table of a core, as a line that a scene takes up again.
use Rattle.std.specs.Prelude.{ℕ, Bool, true, false, List, [], ◌∷◌, ◌++◌, codes, Option, Some, None}
use Rattle.fc_values.specs.Trees.{TreeExport}
use Rattle.fc_nodes.specs.Program.{Unfolding}
use Rattle.topology.specs.Networks.{NetDevice}
use Rattle.firing_core.specs.Cores.{Core}
use Rattle.net_json.specs.Tables.{Row}
use Rattle.net_json.specs.TableTexts.{table_text}

-- the rows of a core's table: the devices that have an export
abbrev pub row_of : ℕ → Option TreeExport → List Row
row_of d None = []
row_of d (Some e) = (d, e) ∷ []

abbrev pub rows_of : Core → List NetDevice → List Row
rows_of c [] = []
rows_of c (d ∷ ds) = row_of d.id (c.exports d.id) ++ rows_of c ds

-- the table of a core, as a line
abbrev pub table_line : Unfolding → Core → List ℕ
table_line U core = table_text U (rows_of core core.net.devices) ++ codes "\n"

-- a text, where it is asked for
abbrev pub where_asked : Bool → List ℕ → List ℕ
where_asked true text = text
where_asked false text = []
