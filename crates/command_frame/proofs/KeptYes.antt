-- Crates above cite this module: what a yes on two texts says of their program and scene.
use Rattle.std.proofs.Common.{ℕ, ◌≡◌, List, length, subst}
use Rattle.fc_nodes.specs.Program.{IsProgram, Program, Unfolding, unfolding_of}
use Rattle.fc_nodes.specs.declared.verdicts.Verdict.TheVariants as verdict
use Rattle.fragment_check.specs.Verdicts.{verdict_of}
use Rattle.firing_core.specs.Cores.{IsGood}
use Rattle.converge_laws.specs.Verdicts.{YesStabilises}
use Rattle.command_frame.specs.Causes.{Accepted}
use Rattle.command_frame.specs.Inputs.{InputOf, ReadsInput}
use Rattle.command_frame.specs.Starts.{InputsAreRead, start_of}
use Rattle.command_frame.specs.Yes.{HasYes, YesHolds}

module _ (laws : InputsAreRead) (program network : List ℕ) (i : InputOf)
    (reads : ReadsInput program network (Accepted i)) where
  -- what holds of programs of nodes and their good starts holds here
  pub at_program : (Q : Unfolding → Type 0)
      → ((P : Program) → IsProgram P → IsGood (unfolding_of P) (start_of i.1) → Q (unfolding_of P)) → Q i.0
  at_program Q f =
      let p = laws.unfolded program network i reads in
      subst (λ (U : Unfolding). IsGood U (start_of i.1) → Q U) p.2 (f p.0 p.1)
      (laws.start program network i reads).good

  -- a yes is kept
  pub yes_kept : YesStabilises → YesHolds i.0 i.1.net
  yes_kept law =
      at_program (λ U. YesHolds U i.1.net) (λ P is good k said. law P i.1.net k is good.net good.declared said)

  abbrev pub has_yes : YesStabilises → (k : ℕ) → verdict_of i.0 (length i.1.net.devices) ≡ verdict.Yes k
      → HasYes program network
  has_yes law k said = record {
    unfolded = i.0;
    scene = i.1;
    reads = reads;
    rounds = k;
    yes = said;
    stabilises = yes_kept law k said;
  }
