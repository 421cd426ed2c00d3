-- What `check` writes of a program and a scene without `--settle`: the verdict, and after a yes the facts of each node,
-- where they are asked for.
use Rattle.std.specs.Prelude.{ℕ, Bool, ◌≡◌, length}
use Rattle.fc_nodes.specs.Program.{Unfolding}
use Rattle.fc_nodes.specs.declared.verdicts.Verdict.{Verdict}
use Rattle.fc_nodes.specs.declared.verdicts.Verdict.TheVariants as verdict
use Rattle.fragment_check.specs.Verdicts.{verdict_of}
use Rattle.net_json.specs.Scenes.{SceneValue}
use Rattle.verdict_texts.specs.VerdictTexts.{checked_text}
use Rattle.command_frame.specs.Answers.{AnswerValue, plain}
use Rattle.command_frame.specs.Causes.{Judged, Accepted}

-- the status is 1 exactly where the verdict is a no
abbrev pub verdict_status : Verdict → ℕ
verdict_status (verdict.Yes rounds) = 0
verdict_status (verdict.No place why) = 1

-- a program and a scene of it: the devices are those of the scene's network
abbrev pub ChecksScene : Bool → Unfolding → SceneValue → Judged AnswerValue → Type 0
ChecksScene facts U s j =
    j ≡ Accepted (plain (verdict_status (verdict_of U (length s.net.devices)))
    (checked_text facts U (length s.net.devices)))
