-- What `trace` promises.
use Rattle.std.specs.Prelude.{ℕ, false, ◌≡◌, ◌≤◌, ◌++◌, List, length}
use Rattle.std.specs.List.{All}
use Rattle.fc_values.specs.Values.{IntValue}
use Rattle.fc_nodes.specs.Program.{Unfolding}
use Rattle.fc_nodes.specs.declared.verdicts.Verdict.TheVariants as verdict
use Rattle.topology.specs.Networks.{Lives}
use Rattle.fragment_check.specs.Verdicts.{verdict_of}
use Rattle.net_json.specs.Scenes.{SceneValue}
use Rattle.walks.specs.Walks.{AreTraced, CostsValue, EvidenceValue}
use Rattle.walk_form.specs.Costs.{AreCostsOf}
use Rattle.walk_form.specs.Laws.{IsLeastAt}
use Rattle.report.specs.Verdicts.{verdict_text}
use Rattle.fc_values.specs.declared.limits.TheConstants.{MOST_BYTES}
use Rattle.command_frame.specs.Causes.{Accepted}
use Rattle.command_frame.specs.Inputs.{ReadsInput}
use Rattle.command_frame.specs.Owing.{OfTwo, Owes}
use Rattle.command_frame.specs.Sections.{AreWithin, WithTwo}
use Rattle.command_frame.specs.Yes.{HasYes, YesHolds}
use Rattle.fc_trace.specs.Texts.{walks_text}
use Rattle.fc_trace.specs.Traces.{Traces}

-- `trace` writes behind the line of a yes, for each device, the least of the costs of all walks that end in it and the
-- best of these walks, where the costs are those of the program on the network. The value of each line is that of the
-- one field at its device
pub record TracesYes (program network text : List ℕ) : Type 0 where
  pub yes : HasYes program network
  pub costs : CostsValue
  pub are : AreCostsOf yes.unfolded yes.scene.net costs
  pub claim : List EvidenceValue
  pub traced : AreTraced costs claim
  pub least : (d : ℕ) → Lives yes.scene.net d → IsLeastAt costs d (yes.stabilises.one.field d)
  pub values : All (λ (e : EvidenceValue). yes.stabilises.one.field e.device ≡ IntValue e.value) claim
  pub writes : text ≡ verdict_text (verdict.Yes yes.rounds) ++ walks_text claim

-- `trace` writes the verdict's line. A yes is kept, also where the program has no walk form; and where the status is 0,
-- what stands behind the line is the walks
pub record TraceKept (program network : List ℕ) (status : ℕ) (text : List ℕ) : Type 0 where
  pub unfolded : Unfolding
  pub scene : SceneValue
  pub reads : ReadsInput program network (Accepted (unfolded, scene))
  pub yes : YesHolds unfolded scene.net
  pub behind : List ℕ
  pub writes : text ≡ verdict_text (verdict_of unfolded (length scene.net.devices)) ++ behind
  pub walks : status ≡ 0 → TracesYes program network text

-- `trace` owes two sections an answer, and what it promises is kept also with status 1: behind a no, and above `no
-- walks`
abbrev pub TraceOwes : Type 0
TraceOwes =
    Owes false (AreWithin MOST_BYTES) (λ sections j. WithTwo Traces sections j) (λ status. status ≤ 1)
    (λ sections answer. OfTwo (λ program network. TraceKept program network answer.status answer.text) sections)
