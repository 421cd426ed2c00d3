-- The stabilised field of a program on a network, and why it isn't answered.
use Rattle.std.specs.Prelude.{ℕ, ◌≡◌, map}
use Rattle.fc_values.specs.Fields.{Entries}
use Rattle.fc_nodes.specs.declared.verdicts.Verdict.TheVariants as verdict
use Rattle.fc_nodes.specs.Program.{Unfolding}
use Rattle.topology.specs.Networks.{Network, numbers}
use Rattle.fragment_check.specs.Verdicts.{verdict_of}
use Rattle.converge_laws.specs.Stabilising.{HasOneSolution}
use Rattle.stable_field.specs.declared.faults.StableFault.{StableFault}
use Rattle.stable_field.specs.declared.faults.StableFault.TheVariants as fault

-- exactly one field solves the program on the network, and these are its values at all devices, rising
pub record IsStableField (U : Unfolding) (N : Network) (es : Entries) : Type 0 where
  pub one : HasOneSolution U N
  pub values : es ≡ map (λ (d : ℕ). (d, one.field d)) (numbers N.devices)

-- the verdict for so many devices is this no; want of memory is always allowed
abbrev pub IsFaultOf : Unfolding → ℕ → StableFault → Type 0
IsFaultOf U n (fault.Unrecognised place why) = verdict_of U n ≡ verdict.No place why
IsFaultOf U n fault.Memory = Unit {0}
