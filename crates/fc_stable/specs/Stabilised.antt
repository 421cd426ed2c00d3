-- What `stable` makes of a program and a scene: the one field that solves the program on the scene's network, or the
-- verdict's no. The scene's table and copies are judged, but not used.
use Rattle.std.specs.Prelude.{ℕ, ◌≡◌, List, length}
use Rattle.fc_values.specs.Fields.{Entries}
use Rattle.fc_nodes.specs.Program.{Unfolding}
use Rattle.fc_nodes.specs.declared.verdicts.Verdict.{Verdict}
use Rattle.fc_nodes.specs.declared.verdicts.Verdict.TheVariants as verdict
use Rattle.topology.specs.Networks.{Network}
use Rattle.fragment_check.specs.Verdicts.{verdict_of}
use Rattle.stable_field.specs.Stable.{IsStableField}
use Rattle.net_json.specs.Scenes.{SceneValue}
use Rattle.report.specs.Texts.{field_text}
use Rattle.report.specs.Verdicts.{verdict_text}
use Rattle.command_frame.specs.Answers.{AnswerValue, plain}
use Rattle.command_frame.specs.Causes.{Judged, Accepted}
use Rattle.command_frame.specs.Inputs.{OfScene}

-- the lines of the field that solves a program on a network
pub record WritesField (U : Unfolding) (N : Network) (answer : AnswerValue) : Type 0 where
  pub field : Entries
  pub stable : IsStableField U N field
  pub is : answer ≡ plain 0 (field_text field)

-- what is written where this is the verdict: of a no its line, with status 1
abbrev pub StabilisedBy : Verdict → Unfolding → Network → AnswerValue → Type 0
StabilisedBy (verdict.Yes rounds) U N answer = WritesField U N answer
StabilisedBy (verdict.No place why) U N answer = answer ≡ plain 1 (verdict_text (verdict.No place why))

-- a program and a scene of it
pub record StabilisesScene (U : Unfolding) (s : SceneValue) (j : Judged AnswerValue) : Type 0 where
  pub answer : AnswerValue
  pub writes : StabilisedBy (verdict_of U (length s.net.devices)) U s.net answer
  pub is : j ≡ Accepted answer

-- the texts of a program and of a scene
abbrev pub Stabilised : List ℕ → List ℕ → Judged AnswerValue → Type 0
Stabilised = OfScene StabilisesScene
