-- What `trace` makes of a program and a scene: the verdict's line, and behind a yes a walk for each device, or `no
-- walks`. The scene's table and copies are judged, but not used.
use Rattle.std.specs.Prelude.{ℕ, ◌≡◌, List, ◌++◌, codes, length, Option, Some, None}
use Rattle.fc_nodes.specs.Program.{Unfolding}
use Rattle.fc_nodes.specs.declared.verdicts.Verdict.{Verdict}
use Rattle.fc_nodes.specs.declared.verdicts.Verdict.TheVariants as verdict
use Rattle.topology.specs.Networks.{Network}
use Rattle.fragment_check.specs.Verdicts.{verdict_of}
use Rattle.walks.specs.Walks.{CostsValue, EvidenceValue, IsCosts, AreTraced}
use Rattle.walk_form.specs.Costs.{AreCostsFor}
use Rattle.walk_form.specs.Forms.{WalkTerms, walk_terms}
use Rattle.net_json.specs.Scenes.{SceneValue}
use Rattle.report.specs.Verdicts.{verdict_text}
use Rattle.command_frame.specs.Answers.{AnswerValue, plain}
use Rattle.command_frame.specs.Causes.{Judged, Accepted}
use Rattle.command_frame.specs.Inputs.{OfScene}
use Rattle.fc_trace.specs.Texts.{walks_text}

-- behind a line, for each device its least cost and its best walk
pub record WritesWalks (U : Unfolding) (N : Network) (w : WalkTerms) (line : List ℕ) (answer : AnswerValue) : Type 0 where
  pub costs : CostsValue
  pub are : AreCostsFor U N w costs
  pub lawful : IsCosts costs
  pub claim : List EvidenceValue
  pub traced : AreTraced costs claim
  pub is : answer ≡ plain 0 (line ++ walks_text claim)

-- what is written where this is the verdict, and these are the terms of the walk form. The status is 1 where there are
-- no walks
abbrev pub TracedBy : Verdict → Option WalkTerms → Unfolding → Network → AnswerValue → Type 0
TracedBy (verdict.No place why) o U N answer = answer ≡ plain 1 (verdict_text (verdict.No place why))
TracedBy (verdict.Yes rounds) None U N answer =
    answer ≡ plain 1 (verdict_text (verdict.Yes rounds) ++ codes "no walks\n")
TracedBy (verdict.Yes rounds) (Some w) U N answer = WritesWalks U N w (verdict_text (verdict.Yes rounds)) answer

-- a program and a scene of it
pub record TracesScene (U : Unfolding) (s : SceneValue) (j : Judged AnswerValue) : Type 0 where
  pub answer : AnswerValue
  pub writes : TracedBy (verdict_of U (length s.net.devices)) (walk_terms U) U s.net answer
  pub is : j ≡ Accepted answer

-- the texts of a program and of a scene
abbrev pub Traces : List ℕ → List ℕ → Judged AnswerValue → Type 0
Traces = OfScene TracesScene
