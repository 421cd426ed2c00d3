-- The laws of unfolding.
use Rattle.std.specs.Prelude.{◌≡◌, ◌≤◌, ◌<◌, ◌^◌, List, length, map}
use Rattle.fc_syntax.specs.Terms.{Declaration}
use Rattle.fc_syntax.specs.Printable.{IsPrintable}
use Rattle.fc_types.specs.Before.{declared_by}
use Rattle.fc_types.specs.Typing.{IsTyped}
use Rattle.fc_nodes.specs.declared.nodes.Node.{Node}
use Rattle.fc_nodes.specs.Terms.{view_of, term_at}
use Rattle.fc_nodes.specs.Program.{Program, IsProgram, unfolding_of}
use Rattle.fc_values.specs.declared.limits.TheConstants.{MOST_NODES}
use Rattle.unfold.specs.Unfolding.{main_term}
use Rattle.unfold.specs.Nodes.{Nodes}
use Rattle.unfold.specs.Counting.{main_count}

-- Nodes that are those of a typed program, at most 2,048 of them, are a program of nodes under its declarations.
abbrev pub UnfoldingIsProgram : Type 0
UnfoldingIsProgram =
    (ds : List Declaration) (ns : List Node) → IsPrintable ds → IsTyped ds → length ds < 2 ^ 32 → map view_of ns
    ≡ Nodes ds → length ns ≤ MOST_NODES →
    IsProgram (record { declared = declared_by ds; nodes = ns })

-- a program of nodes in code, with these declarations, whose term is `main`, unfolded
pub record HasProgram (ds : List Declaration) : Type 0 where
  pub program : Program
  pub is : IsProgram program
  pub unfolds : unfolding_of program ≡ record { declared = declared_by ds; main = main_term ds }

-- Each typed program within the limit has one.
abbrev pub ProgramsUnfold : Type 0
ProgramsUnfold =
    (ds : List Declaration) → IsPrintable ds → IsTyped ds → length ds < 2 ^ 32 → length (Nodes ds) ≤ MOST_NODES
    → HasProgram ds

-- The term of these nodes is `main`, unfolded.
abbrev pub NodesAreMain : Type 0
NodesAreMain = (ds : List Declaration) (ns : List Node) → map view_of ns ≡ Nodes ds → term_at ns 0 ≡ main_term ds

-- The nodes are as many as are counted without making them.
abbrev pub NodesAreCounted : Type 0
NodesAreCounted = (ds : List Declaration) → length (Nodes ds) ≡ main_count ds
