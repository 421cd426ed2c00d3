-- The costs of walks that a program of the walk form has on a network, and why there are none.
use Rattle.std.specs.Prelude.{ℕ, ◌≡◌, List, Some, None}
use Rattle.fc_nodes.specs.declared.verdicts.Verdict.TheVariants as verdict
use Rattle.fc_nodes.specs.Program.{Unfolding}
use Rattle.topology.specs.Networks.{Network}
use Rattle.fragment_check.specs.Verdicts.{verdict_of}
use Rattle.walks.specs.Walks.{CostsValue}
use Rattle.walks.specs.Gathering.{AddValue, AddEach, AddWeights, gathered}
use Rattle.walk_form.specs.declared.faults.CostFault.{CostFault}
use Rattle.walk_form.specs.declared.faults.CostFault.TheVariants as fault
use Rattle.walk_form.specs.Fields.{IsFieldAt}
use Rattle.walk_form.specs.Forms.{StepTerm, StepValue, StepWeight, WalkTerms, walk_terms}

-- what steps add on a network: what the one field of a term has, or the weights of the links
abbrev pub AddsAre : Network → StepTerm → AddValue → Type 0
AddsAre N (StepValue p s) (AddEach xs) = IsFieldAt N p s xs
AddsAre N StepWeight AddWeights = Unit {0}
AddsAre N _ _ = ⊥

-- walks start with what the local argument has, and steps cost what is added; they are stopped at the ceiling
pub record AreCostsFor (U : Unfolding) (N : Network) (w : WalkTerms) (C : CostsValue) : Type 0 where
  pub start : List (ℕ × ℕ)
  pub added : AddValue
  pub starts : IsFieldAt N w.place w.local start
  pub adds : AddsAre N w.step added
  pub is : C ≡ gathered U.declared.ceiling N start added

-- the costs of a program that has the walk form
pub record AreCostsOf (U : Unfolding) (N : Network) (C : CostsValue) : Type 0 where
  pub terms : WalkTerms
  pub form : walk_terms U ≡ Some terms
  pub costs : AreCostsFor U N terms C

-- the verdict for so many devices is this no, or a yes for so many rounds without the walk form; want of memory is
-- always allowed
abbrev pub IsCostFault : Unfolding → ℕ → CostFault → Type 0
IsCostFault U n (fault.Unrecognised place why) = verdict_of U n ≡ verdict.No place why
IsCostFault U n (fault.NotWalks k) = (verdict_of U n ≡ verdict.Yes k) × (walk_terms U ≡ None)
IsCostFault U n fault.Memory = Unit {0}
