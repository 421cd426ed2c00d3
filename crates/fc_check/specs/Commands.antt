-- What `check` makes of the texts of a program and a scene: the verdict, and with `--settle` behind it after how many
-- rounds the devices of the network settle.
use Rattle.std.specs.Prelude.{Bool, List, ℕ, Option, Some, None}
use Rattle.fc_nodes.specs.Program.{Unfolding}
use Rattle.net_json.specs.Scenes.{SceneValue}
use Rattle.command_words.specs.declared.commands.CheckOptions.{CheckOptions}
use Rattle.command_words.specs.declared.commands.Start.{Start}
use Rattle.command_frame.specs.Answers.{AnswerValue}
use Rattle.command_frame.specs.Causes.{Judged}
use Rattle.command_frame.specs.Inputs.{OfScene}
use Rattle.fc_check.specs.Checks.{ChecksScene}
use Rattle.fc_check.specs.Settles.{SettlesScene}

-- a program and a scene of it
abbrev pub ChecksFrom : Bool → Option Start → Unfolding → SceneValue → Judged AnswerValue → Type 0
ChecksFrom facts None U s j = ChecksScene facts U s j
ChecksFrom facts (Some from) U s j = SettlesScene facts from U s j

-- the texts of a program and of a scene
abbrev pub Checks : CheckOptions → List ℕ → List ℕ → Judged AnswerValue → Type 0
Checks options = OfScene (λ U s k. ChecksFrom options.facts options.settle U s k)
