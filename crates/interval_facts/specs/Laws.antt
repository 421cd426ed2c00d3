-- What the laws say.
use Rattle.std.specs.Prelude.{ℕ, ◌≡◌, List}
use Rattle.fc_values.specs.Values.{LocalValue}
use Rattle.fc_nodes.specs.Program.{Program, unfolding_of, IsProgram}
use Rattle.topology.specs.Networks.{Network, IsNetwork, lives}
use Rattle.interval_facts.specs.Ranges.{RangeValue, ranges_of}
use Rattle.interval_facts.specs.Solutions.{SolvesMain, no_binders, local_map}
use Rattle.interval_facts.specs.Claims.{InRanges}
use Rattle.interval_facts.specs.Steps.{range_in}

-- each solution of a program, over all devices of a network with its declarations, lies in these ranges of its nodes
abbrev pub SolutionsLieIn : Program → List RangeValue → Type 0
SolutionsLieIn p rs = (N : Network) (F : ℕ → LocalValue) → IsNetwork N → N.declared ≡ p.declared
    → (s : SolvesMain N (unfolding_of p).main F) → InRanges (range_in rs) N 0 (unfolding_of p).main (lives N)
    no_binders (local_map F) s

-- and in the program's ranges
abbrev pub SolutionsLieInRanges : Type 0
SolutionsLieInRanges = (p : Program) → IsProgram p → SolutionsLieIn p (ranges_of (unfolding_of p))
