-- A yes on the texts of a program and a scene.
use Rattle.std.specs.Prelude.{ℕ, ◌≡◌, List, length}
use Rattle.fc_nodes.specs.Program.{Unfolding}
use Rattle.fc_nodes.specs.declared.verdicts.Verdict.TheVariants as verdict
use Rattle.topology.specs.Networks.{Network}
use Rattle.fragment_check.specs.Verdicts.{verdict_of}
use Rattle.converge_laws.specs.Stabilising.{Stabilises}
use Rattle.net_json.specs.Scenes.{SceneValue}
use Rattle.command_frame.specs.Causes.{Accepted}
use Rattle.command_frame.specs.Inputs.{ReadsInput}

-- The texts of a program and a scene, on which the verdict is a yes for so many rounds: exactly one field solves the
-- program on the scene's network, and from every good core each log without an edit that has so many rounds leads to
-- its values.
pub record HasYes (program network : List ℕ) : Type 0 where
  pub unfolded : Unfolding
  pub scene : SceneValue
  pub reads : ReadsInput program network (Accepted (unfolded, scene))
  pub rounds : ℕ
  pub yes : verdict_of unfolded (length scene.net.devices) ≡ verdict.Yes rounds
  pub stabilises : Stabilises unfolded scene.net rounds

-- a yes for the devices of a network is kept there: within its rounds the program stabilises
abbrev pub YesHolds : Unfolding → Network → Type 0
YesHolds U N = (K : ℕ) → verdict_of U (length N.devices) ≡ verdict.Yes K → Stabilises U N K
