-- What `check` promises.
use Rattle.std.specs.Prelude.{ℕ, Bool, false, ◌≡◌, ◌≤◌, ◌++◌, List, length, Option, Some, None}
use Rattle.fc_nodes.specs.Program.{Unfolding}
use Rattle.fc_nodes.specs.declared.verdicts.Verdict.TheVariants as verdict
use Rattle.topology.specs.Networks.{Network, IsNetwork}
use Rattle.fragment_check.specs.Verdicts.{verdict_of}
use Rattle.converge_laws.specs.Stabilising.{Stabilises}
use Rattle.net_json.specs.Scenes.{SceneValue}
use Rattle.bound_rounds.specs.Rounds.{BoundTable}
use Rattle.settle_rounds.specs.Rounds.{any_table}
use Rattle.settle_rounds.specs.Within.{StartTable}
use Rattle.settle_rounds.specs.Starts.{growing_cap}
use Rattle.settle_rounds.specs.SettleTimes.{SettlesWell}
use Rattle.settle_rounds.specs.StartTimes.{SettlesFrom}
use Rattle.report.specs.Verdicts.{verdict_text}
use Rattle.command_words.specs.declared.commands.CheckOptions.{CheckOptions}
use Rattle.command_words.specs.declared.commands.Start.{Start}
use Rattle.command_words.specs.declared.commands.Start.TheVariants.{Any, Table}
use Rattle.fc_values.specs.declared.limits.TheConstants.{MOST_BYTES}
use Rattle.command_frame.specs.Answers.{AnswerValue}
use Rattle.command_frame.specs.Causes.{Accepted}
use Rattle.command_frame.specs.Inputs.{ReadsInput}
use Rattle.command_frame.specs.Owing.{OfTwo, Owes}
use Rattle.command_frame.specs.Sections.{AreWithin, WithTwo}
use Rattle.command_frame.specs.Starts.{start_of}
use Rattle.command_frame.specs.Yes.{YesHolds}
use Rattle.fc_check.specs.Checks.{verdict_status}
use Rattle.fc_check.specs.Commands.{Checks}
use Rattle.fc_check.specs.Settles.{settle_status, settles_text, time_of}

-- a yes for so many devices is kept on each network with as many and with the program's declarations
abbrev pub KeepsYesOnEach : Unfolding → ℕ → Type 0
KeepsYesOnEach U n =
    (K : ℕ) → verdict_of U n ≡ verdict.Yes K → (N : Network) → IsNetwork N → N.declared ≡ U.declared
    → length N.devices ≡ n → Stabilises U N K

-- `check` writes the verdict's line, and facts behind it. A yes is kept on the scene's network, and on each other one
-- with as many devices
pub record VerdictKept (program network : List ℕ) (status : ℕ) (text : List ℕ) : Type 0 where
  pub unfolded : Unfolding
  pub scene : SceneValue
  pub reads : ReadsInput program network (Accepted (unfolded, scene))
  pub yes : YesHolds unfolded scene.net
  pub each : KeepsYesOnEach unfolded (length scene.net.devices)
  pub ends : status ≡ verdict_status (verdict_of unfolded (length scene.net.devices))
  pub facts : List ℕ
  pub writes : text ≡ verdict_text (verdict_of unfolded (length scene.net.devices)) ++ facts

-- `check --settle` writes behind the text of the verdict the settle time of the scene's network, and for each device
-- its settle round and its value then; or that the network is open, with the same lines. These rounds and this time are
-- as good as they say: they lead from every good core to these values
pub record SettlesKept (facts : Bool) (program network : List ℕ) (status : ℕ) (text : List ℕ) : Type 0 where
  pub unfolded : Unfolding
  pub scene : SceneValue
  pub reads : ReadsInput program network (Accepted (unfolded, scene))
  pub yes : YesHolds unfolded scene.net
  pub each : KeepsYesOnEach unfolded (length scene.net.devices)
  pub well : SettlesWell unfolded scene.net
  pub ends : status ≡ settle_status (time_of unfolded scene.net (any_table unfolded))
  pub writes : text ≡ settles_text facts unfolded scene.net (any_table unfolded)

-- `check --settle --from-table` writes the same where rounds are counted from the start of the scene, its table and its
-- copies in flight: they lead from there to these values
pub record StartKept (facts : Bool) (program network : List ℕ) (status : ℕ) (text : List ℕ) : Type 0 where
  pub unfolded : Unfolding
  pub scene : SceneValue
  pub reads : ReadsInput program network (Accepted (unfolded, scene))
  pub yes : YesHolds unfolded scene.net
  pub each : KeepsYesOnEach unfolded (length scene.net.devices)
  pub table : BoundTable
  pub starts : StartTable unfolded scene.net (growing_cap (length scene.net.devices)) (start_of scene) table
  pub from : SettlesFrom unfolded scene.net (start_of scene) table
  pub ends : status ≡ settle_status (time_of unfolded scene.net table)
  pub writes : text ≡ settles_text facts unfolded scene.net table

-- what `check` promises, and with `--settle` from which exports
abbrev pub CheckPromises : Bool → Option Start → List ℕ → List ℕ → AnswerValue → Type 0
CheckPromises facts None program network answer = VerdictKept program network answer.status answer.text
CheckPromises facts (Some Any) program network answer = SettlesKept facts program network answer.status answer.text
CheckPromises facts (Some Table) program network answer = StartKept facts program network answer.status answer.text

-- `check` owes two sections an answer, and what it promises is kept also with status 1: behind a no, and of a network
-- that is open
abbrev pub CheckOwes : Type 0
CheckOwes =
    (options : CheckOptions) → Owes false (AreWithin MOST_BYTES) (λ sections j. WithTwo (Checks options) sections j)
    (λ status. status ≤ 1)
    (λ sections answer.
    OfTwo (λ program network. CheckPromises options.facts options.settle program network answer) sections)
