-- Crates above cite this module: what is made of texts that are refused, or read.
use Rattle.std.proofs.Common.{ℕ, ◌≡◌, List, refl}
use Rattle.fc_nodes.specs.Program.{Unfolding}
use Rattle.net_json.specs.Scenes.{SceneValue}
use Rattle.command_frame.specs.Answers.{AnswerValue}
use Rattle.command_frame.specs.Causes.{Cause, Judged, Accepted, Refused}
use Rattle.command_frame.specs.Inputs.{OfScene, ReadsInput}

module _ (Makes : Unfolding → SceneValue → Judged AnswerValue → Type 0) (program network : List ℕ) where
  pub unread : (cause : Cause) → ReadsInput program network (Refused cause)
      → OfScene Makes program network (Refused cause)
  unread cause h = record { judged = Refused cause; reads = h; ends = refl }

  pub read : (U : Unfolding) (s : SceneValue) (j : Judged AnswerValue) → ReadsInput program network (Accepted (U, s))
      → Makes U s j → OfScene Makes program network j
  read U s j h made = record { judged = Accepted (U, s); reads = h; ends = made }
