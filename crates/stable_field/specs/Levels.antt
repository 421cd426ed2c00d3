-- At which level tables are.
use Rattle.std.specs.Prelude.{ℕ, List, length, Option}
use Rattle.fc_values.specs.declared.exports.Export.{Export}
use Rattle.fc_values.specs.Values.{LocalValue}
use Rattle.fc_nodes.specs.Program.{Unfolding}
use Rattle.topology.specs.Networks.{Network}
use Rattle.interval_facts.specs.Solutions.{SolvesMain}
use Rattle.converge_laws.specs.CoreLevels.{TableAt}
use Rattle.converge_laws.specs.Invariant.{ExportAt}
use Rattle.converge_laws.specs.Verdicts.{analysis_of}
use Rattle.stable_field.specs.Tables.{table_of}

-- the exports of a table agree, at a level, with each field that solves the program
abbrev pub IsAtLevel : Unfolding → Network → ℕ → List (Option Export) → Type 0
IsAtLevel U N j xs = (F : ℕ → LocalValue) (s : SolvesMain N U.main F)
    → TableAt (ExportAt U (analysis_of U (length N.devices)) N F s) N j (table_of U N xs)
