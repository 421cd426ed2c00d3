-- What the laws say.
use Rattle.std.specs.Prelude.{ℕ, ◌≡◌, length, Some}
use Rattle.fc_values.specs.Values.{LocalValue, IntValue}
use Rattle.fc_nodes.specs.declared.verdicts.Verdict.TheVariants as verdict
use Rattle.fc_nodes.specs.Program.{Program, Unfolding, unfolding_of, IsProgram}
use Rattle.topology.specs.Networks.{Network, Lives, IsNetwork}
use Rattle.interval_facts.specs.Solutions.{SolvesMain}
use Rattle.fragment_check.specs.Verdicts.{verdict_of}
use Rattle.walks.specs.Walks.{CostsValue, IsCosts, IsLeastCost}
use Rattle.walk_form.specs.Forms.{WalkTerms, walk_terms}
use Rattle.walk_form.specs.Costs.{AreCostsOf, AreCostsFor}

-- the value is the least of the costs of all walks that end in the device
pub record IsLeastAt (C : CostsValue) (d : ℕ) (v : LocalValue) : Type 0 where
  pub cost : ℕ
  pub value : v ≡ IntValue cost
  pub least : IsLeastCost C d cost

-- where the verdict is a yes, a field that solves a program of the walk form has the least costs
abbrev pub SolutionsAreLeast : Type 0
SolutionsAreLeast =
    (P : Program) (N : Network) (k : ℕ) (C : CostsValue) (F : ℕ → LocalValue) → IsProgram P → IsNetwork N
    → N.declared ≡ P.declared → verdict_of (unfolding_of P) (length N.devices) ≡ verdict.Yes k
    → AreCostsOf (unfolding_of P) N C → SolvesMain N (unfolding_of P).main F → (d : ℕ) → Lives N d → IsLeastAt C d (F d)

-- where the verdict is a yes, a program of the walk form has costs on each network
abbrev pub FormsHaveCosts : Type 0
FormsHaveCosts =
    (P : Program) (N : Network) (k : ℕ) (w : WalkTerms) → IsProgram P → IsNetwork N → N.declared ≡ P.declared
    → verdict_of (unfolding_of P) (length N.devices) ≡ verdict.Yes k → walk_terms (unfolding_of P) ≡ Some w
    → (C : CostsValue) × AreCostsFor (unfolding_of P) N w C × IsCosts C

-- it has no other costs
abbrev pub OneCosts : Type 0
OneCosts = (U : Unfolding) (N : Network) (w : WalkTerms) (B C : CostsValue) → AreCostsFor U N w B → AreCostsFor U N w C
    → B ≡ C
