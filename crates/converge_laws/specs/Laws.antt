-- What the laws say of a program that an analysis finds in the fragment.
use Rattle.std.specs.Prelude.{ℕ, ◌≡◌}
use Rattle.fc_values.specs.Values.{LocalValue}
use Rattle.fc_nodes.specs.Terms.{Term, size}
use Rattle.fc_nodes.specs.Program.{Program, Unfolding, unfolding_of, IsProgram}
use Rattle.topology.specs.Networks.{Network, IsNetwork}
use Rattle.interval_facts.specs.Ranges.{range_of}
use Rattle.interval_facts.specs.Solutions.{Devices, In, ValueMap, ValueMaps, Solves, SolvesMain}
use Rattle.interval_facts.specs.Claims.{InRanges}
use Rattle.fragment_check.specs.Levels.{level_of}
use Rattle.converge_laws.specs.CoreLevels.{Raises}
use Rattle.converge_laws.specs.Fragment.{Analysis, IsFor, TermInFragment}
use Rattle.converge_laws.specs.Invariant.{ExportAt}
use Rattle.converge_laws.specs.Stabilising.{Stabilises}

-- an analysis of a program by its own ranges, for a network: each `rep` and `share` of the program has a pattern
pub record IsAnalysis (U : Unfolding) (A : Analysis) (N : Network) : Type 0 where
  pub ranges : A.ranges ≡ range_of U
  pub for : IsFor A N
  pub fragment : TermInFragment A N.declared.ceiling 0 U.main

-- the level of `main`, which no `rep` or `share` is around
abbrev pub root_level : Unfolding → Analysis → ℕ
root_level U A = level_of A.stages 0 1 (size U.main) (λ q. 0) U.main

-- One level a round: the levels of exports that agree with a solution meet what levels have to meet, so that each round
-- raises the level of a core by one.
abbrev pub SolutionsRaiseLevels : Type 0
SolutionsRaiseLevels =
    (P : Program) (A : Analysis) (N : Network) → IsProgram P → IsNetwork N → N.declared ≡ P.declared
    → IsAnalysis (unfolding_of P) A N
    → (F : ℕ → LocalValue) (s : SolvesMain N (unfolding_of P).main F)
    → Raises (ExportAt (unfolding_of P) A N F s) (unfolding_of P) N

-- the program stabilises within as many rounds as its level
abbrev pub AnalysedStabilise : Type 0
AnalysedStabilise =
    (P : Program) (A : Analysis) (N : Network) → IsProgram P → IsNetwork N → N.declared ≡ P.declared
    → IsAnalysis (unfolding_of P) A N
    → Stabilises (unfolding_of P) N (root_level (unfolding_of P) A)

-- One solution at each place: where a term that stands at place p over devices D is in the fragment, two maps that
-- solve it with the same maps of its binders are equal over D, if one of them lies in the ranges. It does where the
-- binders' maps lie in the ranges of their variables; without this it would be false.
abbrev pub SolutionsAreOne : Type 0
SolutionsAreOne = (A : Analysis) (N : Network) → IsNetwork N → IsFor A N
    → (t : Term) (p : ℕ) (D : Devices) (V : ValueMaps) (F G : ValueMap) → TermInFragment A N.declared.ceiling p t
    → Solves N p t D V F → (s : Solves N p t D V G) → InRanges A.ranges N p t D V G s → (d : ℕ) → In D d → F d ≡ G d
